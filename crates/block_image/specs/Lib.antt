pub mod Block
pub mod Changes
pub mod Parts
