pub mod Going
pub mod Only
pub mod Laws
