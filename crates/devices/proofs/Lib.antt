pub mod Answers
pub mod Sectors
pub mod Passes
mod RulesHold
