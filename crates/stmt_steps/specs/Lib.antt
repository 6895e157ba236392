pub mod Back
pub mod Change
pub mod End
pub mod Mark
pub mod Start
pub mod Visit
