pub mod Allowed
pub mod Choices
pub mod Made
pub mod Moves
pub mod Needs
