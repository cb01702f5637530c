pub mod Faults
pub mod Mode
pub mod Total
