pub mod RunPlan
pub mod RunLaws
pub mod Exact
pub mod Back
pub mod Cases
