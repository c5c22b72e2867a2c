pub mod Walks
pub mod Only
