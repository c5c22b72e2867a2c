pub mod Following
pub mod Only
