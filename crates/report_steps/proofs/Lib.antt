pub mod Found
pub mod Numbers
pub mod Places
pub mod Records
pub mod Seen
pub mod TakenOver
pub mod Told
