pub mod Entry
pub mod Links
pub mod Masters
