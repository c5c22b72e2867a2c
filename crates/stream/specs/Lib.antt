pub mod Inputs
pub mod Stops
