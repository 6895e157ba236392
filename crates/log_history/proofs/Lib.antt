pub mod LogLemmas
pub mod OneWay
pub mod OrderLemmas
pub mod StandingLemmas
pub mod ThreadLemmas
