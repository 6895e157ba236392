pub mod BackLemmas
pub mod ChangeLemmas
pub mod EndLaws
pub mod EndLemmas
pub mod LimitLemmas
pub mod PartLemmas
pub mod RedoParts
pub mod RingPlaces
