pub mod Into
pub mod Second
