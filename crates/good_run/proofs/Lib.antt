pub mod EachLemmas
pub mod OpenLemmas
pub mod WaveLemmas
