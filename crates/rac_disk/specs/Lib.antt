pub mod Content
pub mod State
pub mod Calls
pub mod Memory
