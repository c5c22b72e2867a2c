pub mod CorrectingRules
pub mod CorrectingLaws
pub mod CorrectingVerdict
pub mod Correcting
