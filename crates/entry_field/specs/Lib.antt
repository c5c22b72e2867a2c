pub mod Fields
pub mod Test
