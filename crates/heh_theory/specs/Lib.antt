pub mod Heh
pub mod Laws
pub mod State
