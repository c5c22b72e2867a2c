pub mod Present
pub mod Filling
pub mod Only
