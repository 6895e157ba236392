pub mod Back
pub mod Change
pub mod End
pub mod Limits
pub mod Parts
