pub mod Decided
pub mod DeedLemmas
pub mod StepLemmas
pub mod TurnLemmas
pub mod RingLemmas
pub mod HandLemmas
