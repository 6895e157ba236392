pub mod AskUndo
pub mod Checkpoint
pub mod Crash
pub mod Force
pub mod Install
pub mod Ready
pub mod Write
