pub mod Enabled
pub mod Machine
pub mod Runs
