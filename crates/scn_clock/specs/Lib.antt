pub mod Clock
pub mod Broadcast
