pub mod Holds
pub mod Made
pub mod Numbered
pub mod Segments
