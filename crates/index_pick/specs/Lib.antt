pub mod Looked
pub mod Cases
