pub mod Entered
pub mod FoundWhole
pub mod LogPieces
pub mod Naming
pub mod Observing
pub mod Tests
pub mod Versioned
pub mod WholeRecords
