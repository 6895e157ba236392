pub mod Ends
pub mod Runs
pub mod Sessions
pub mod Tells
