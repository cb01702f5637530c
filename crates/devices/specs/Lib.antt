pub mod Numbers
pub mod Texts
pub mod Faults
pub mod Device
pub mod Rules
