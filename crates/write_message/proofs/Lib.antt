pub mod Parts
pub mod Puts
pub mod Turns
pub mod Whole
pub mod Only
