pub mod Repeated
pub mod SkippingLaws
pub mod Cases
