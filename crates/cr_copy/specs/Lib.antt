pub mod Copy
pub mod Named
