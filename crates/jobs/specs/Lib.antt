pub mod Answers
pub mod Laws
pub mod Names
pub mod Outcome
