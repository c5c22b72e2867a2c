pub mod Seeking
pub mod Only
pub mod Meaning
pub mod SupplyLaws
