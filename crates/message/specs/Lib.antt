pub mod Deciding
pub mod Tags
pub mod Walks
