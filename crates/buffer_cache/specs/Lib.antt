pub mod Cache
pub mod Place
