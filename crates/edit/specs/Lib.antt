pub mod Edits
pub mod EditLaws
pub mod Cases
