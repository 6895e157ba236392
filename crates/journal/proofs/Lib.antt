pub mod EachLemmas
pub mod HistoryLemmas
pub mod XidLemmas
