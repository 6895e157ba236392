pub mod LoadLemmas
pub mod RingLemmas
