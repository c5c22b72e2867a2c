pub mod Walking
pub mod Seen
pub mod Going
pub mod Reaching
pub mod Only
