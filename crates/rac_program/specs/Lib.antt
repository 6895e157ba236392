pub mod Notes
pub mod Program
