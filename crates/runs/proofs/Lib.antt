mod Keys
mod Sectors
mod Keeps
mod Steps
pub mod Upheld
mod Scripts
