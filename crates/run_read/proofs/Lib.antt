pub mod Going
pub mod Only
