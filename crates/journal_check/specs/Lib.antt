pub mod Checked
pub mod Place
