pub mod Chars
pub mod Only
