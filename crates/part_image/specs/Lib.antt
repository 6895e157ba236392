pub mod Cells
pub mod Front
pub mod Slots
pub mod Undo
