pub mod RunRules
pub mod RunVerdict
pub mod Runs
