pub mod Places
pub mod Walks
pub mod Kept
pub mod Owned
pub mod Turning
pub mod Crosses
