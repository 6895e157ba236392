pub mod HasUndo
pub mod InstPlaces
pub mod Plays
pub mod Sane
pub mod Steps
