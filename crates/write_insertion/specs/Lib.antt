pub mod Insertion
pub mod InsertionLaws
