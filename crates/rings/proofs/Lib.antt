pub mod Blending
pub mod Bytes
mod Chunks
pub mod Powers
mod Reading
pub mod Rows
pub mod Total
