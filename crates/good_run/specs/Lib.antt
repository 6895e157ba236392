pub mod Examples
pub mod Waves
pub mod Turns
pub mod ControlLines
pub mod Hold
pub mod Refusals
pub mod Good
