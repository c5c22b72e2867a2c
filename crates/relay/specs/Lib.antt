pub mod Prefix
pub mod Pairs
pub mod Cap
pub mod Words
pub mod Cases
