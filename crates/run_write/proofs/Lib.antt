pub mod Short
pub mod Turns
pub mod Whole
pub mod Only
