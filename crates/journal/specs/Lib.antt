pub mod Past
pub mod Standing
pub mod History
pub mod Sees
pub mod Stood
pub mod Good
