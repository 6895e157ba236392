pub mod Layouts
pub mod ReadSegments
pub mod Restored
