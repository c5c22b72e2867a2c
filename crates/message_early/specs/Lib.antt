pub mod Early
pub mod Laws
pub mod Cut
