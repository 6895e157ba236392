pub mod LogHistory
pub mod Logs
pub mod Standing
