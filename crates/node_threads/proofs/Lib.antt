pub mod Ending
pub mod Crossing
