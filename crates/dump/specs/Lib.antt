pub mod Fills
pub mod Verdict
