pub mod Action
pub mod Coefficients
pub mod Euclid
pub mod Inverses
pub mod Quotient
pub mod Xor
