pub mod Broken
