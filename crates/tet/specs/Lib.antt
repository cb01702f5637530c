pub mod Keys
pub mod Kind
pub mod State
