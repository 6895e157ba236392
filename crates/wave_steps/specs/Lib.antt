pub mod Answers
pub mod Begins
pub mod Buckets
pub mod Enter
pub mod News
pub mod WaveEnd
