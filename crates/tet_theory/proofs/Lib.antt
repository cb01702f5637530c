pub mod Blends
pub mod Lasts
pub mod States
pub mod Undoing
