pub mod Plain
pub mod Copies
pub mod Keeping
pub mod Edited
pub mod EditKeeps
pub mod EditRules
pub mod EditVerdict
pub mod Editing
