pub mod CellLemmas
pub mod FrontLemmas
pub mod Numbers
pub mod OneValue
pub mod SlotLemmas
pub mod UndoLemmas
