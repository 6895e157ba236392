pub mod Ends
pub mod Players
