pub mod Calls
pub mod Passes
pub mod Sector
