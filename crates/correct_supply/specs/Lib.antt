pub mod Supplying
pub mod SupplyLaws
pub mod Meaning
pub mod Cases
