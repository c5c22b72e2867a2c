pub mod Mixed
pub mod Records
pub mod RecordLaws
pub mod Taken
