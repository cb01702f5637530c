pub mod Laws
pub mod State
pub mod Tet
