pub mod Made
pub mod Groups
pub mod GroupLaws
pub mod Meaning
pub mod Cases
