pub mod Lost
pub mod LostCore
