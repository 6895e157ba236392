pub mod PastLemmas
pub mod DeedLemmas
pub mod HolderLemmas
pub mod PlaceLemmas
pub mod CheckLemmas
