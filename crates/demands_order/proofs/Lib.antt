pub mod Cores
pub mod Entries
pub mod Refusals
pub mod RulesLaws
pub mod Verdicts
