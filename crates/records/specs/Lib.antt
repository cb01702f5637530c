pub mod Codes
pub mod Record
pub mod Views
pub mod Writing
