pub mod Holds
pub mod FaultLists
mod Bounds
