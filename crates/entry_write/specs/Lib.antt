pub mod Writers
pub mod Longest
pub mod WritingCases
