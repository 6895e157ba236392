pub mod Answers
pub mod Ends
pub mod Found
pub mod Journals
pub mod Reports
pub mod Summaries
pub mod Texts
pub mod Words
