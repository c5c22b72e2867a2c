pub mod Arguments
pub mod Orders
pub mod Counting
pub mod Cases
pub mod Texts
