pub mod Sounding
pub mod Only
