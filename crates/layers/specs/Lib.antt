pub mod Window
pub mod Join
pub mod Sounds
