pub mod Cases
pub mod Needed
pub mod Reading
pub mod Writing
