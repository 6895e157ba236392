pub mod Anew
pub mod DrainLemmas
pub mod HeldUp
pub mod Sends
