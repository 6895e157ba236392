pub mod Choice
pub mod Lock
pub mod Own
