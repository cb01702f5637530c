pub mod History
pub mod Runs
pub mod Law
pub mod Script
