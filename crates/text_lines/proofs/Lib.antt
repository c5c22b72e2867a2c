pub mod Takes
pub mod Only
