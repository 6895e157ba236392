pub mod BlockLemmas
pub mod ChangeLemmas
pub mod EachLemmas
