pub mod ChoiceLemmas
pub mod LockLemmas
pub mod SlotLemmas
