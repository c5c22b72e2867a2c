pub mod Writing
pub mod Counting
pub mod Only
