pub mod Windows
pub mod Joins
