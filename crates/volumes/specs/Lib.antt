pub mod Phases
pub mod Faults
pub mod Volume
pub mod Sounds
