pub mod Line
pub mod Chars
pub mod Spelling
pub mod Lines
pub mod Cases
