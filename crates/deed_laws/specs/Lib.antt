pub mod Deeds
pub mod Rings
pub mod Turns
