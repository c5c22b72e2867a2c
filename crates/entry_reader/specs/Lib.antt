pub mod Held
pub mod Counting
