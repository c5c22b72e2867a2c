pub mod Skips
pub mod Only
