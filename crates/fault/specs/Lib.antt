pub mod Fault
pub mod Short
pub mod Inside
pub mod Cases
