pub mod Inverse
pub mod Laws
pub mod Polynomial
