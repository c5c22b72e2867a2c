pub mod Frame
pub mod Faults
pub mod Trips
