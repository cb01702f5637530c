pub mod Answers
pub mod Cipher
pub mod Kinds
