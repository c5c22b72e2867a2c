pub mod Running
pub mod Making
pub mod Only
