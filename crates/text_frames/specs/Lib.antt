pub mod Text
pub mod Room
pub mod Dump
pub mod Print
pub mod Cases
pub mod DumpLaws
