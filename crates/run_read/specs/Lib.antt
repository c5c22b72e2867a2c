pub mod Packed
pub mod Theorem
pub mod Runs
pub mod Cases
pub mod Widths
pub mod Short
