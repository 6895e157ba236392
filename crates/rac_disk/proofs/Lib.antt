pub mod Kept
pub mod New
pub mod Two
