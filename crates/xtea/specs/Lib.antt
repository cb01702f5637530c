pub mod Laws
pub mod Xtea
