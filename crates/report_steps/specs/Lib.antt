pub mod Recovering
pub mod Reopen
pub mod Report
pub mod TakeOver
