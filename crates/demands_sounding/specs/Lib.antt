pub mod SoundingRules
pub mod SoundingVerdict
pub mod VerdictsC
pub mod AllOnesAlone
