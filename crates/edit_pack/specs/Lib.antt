pub mod Packing
pub mod Sums
pub mod Stretches
pub mod PackLaws
pub mod Fence
pub mod Amending
pub mod PackTable
