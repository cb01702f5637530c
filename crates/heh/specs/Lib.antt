pub mod Halves
pub mod Kind
pub mod State
