pub mod Puts
pub mod Fields
pub mod Frames
pub mod Only
pub mod DumpLaws
pub mod PrintLaws
