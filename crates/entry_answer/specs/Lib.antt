pub mod Gate
pub mod Told
pub mod Stores
