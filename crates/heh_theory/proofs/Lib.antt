pub mod Inverse
pub mod Refusals
pub mod Undoing
