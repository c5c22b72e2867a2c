pub mod SoundingVerdict
pub mod VerdictsC
