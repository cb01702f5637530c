pub mod Ends
pub mod Loops
pub mod Parts
pub mod Stages
