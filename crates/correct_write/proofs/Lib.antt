pub mod Stretches
pub mod Only
