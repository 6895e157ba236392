pub mod LogFiles
pub mod LogLemmas
pub mod OpeningLemmas
mod Room
