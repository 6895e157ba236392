pub mod Header
pub mod Status
pub mod UndoBlock
