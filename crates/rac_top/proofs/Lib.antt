pub mod LawLemmas
pub mod NothingRun
pub mod RanLemmas
pub mod WholeLemmas
pub mod AuditLemmas
pub mod ReadingLemmas
