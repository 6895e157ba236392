pub mod Scripts
pub mod Transfers
pub mod Words
