pub mod Changes
pub mod Rolling
