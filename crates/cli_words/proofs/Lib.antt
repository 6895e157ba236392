pub mod Given
pub mod Numerals
pub mod Taken
pub mod Whole
