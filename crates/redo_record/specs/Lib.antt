pub mod Front
pub mod Parts
pub mod Redo
