pub mod Cap
pub mod Pairs
pub mod Prefix
pub mod Words
