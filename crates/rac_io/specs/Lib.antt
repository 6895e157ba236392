pub mod Counts
pub mod Read
pub mod Write
pub mod Memory
