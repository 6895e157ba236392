pub mod May
pub mod Ranges
