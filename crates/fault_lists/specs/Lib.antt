pub mod Numbers
pub mod Once
pub mod Held
pub mod FaultList
pub mod Sounds
