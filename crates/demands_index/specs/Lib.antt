pub mod IndexLaws
pub mod Indexing
pub mod IndexRules
pub mod IndexVerdict
pub mod Lines
