pub mod Controls
pub mod Core
pub mod Create
pub mod Inst
pub mod Lines
pub mod Plan
