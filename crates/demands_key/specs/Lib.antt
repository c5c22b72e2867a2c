pub mod Keys
pub mod Caps
