pub mod Blocks
pub mod Ring
pub mod Rings
pub mod Rows
pub mod Sums
