pub mod Image
pub mod Sounds
