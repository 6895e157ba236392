pub mod Blocks
pub mod Headers
pub mod Parts
pub mod UndoBlocks
