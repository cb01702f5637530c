pub mod Names
pub mod Commands
pub mod Answers
