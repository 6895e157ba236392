pub mod HolderRuns
pub mod Shown
pub mod Holders
pub mod Own
pub mod HolderTurns
pub mod Beside
