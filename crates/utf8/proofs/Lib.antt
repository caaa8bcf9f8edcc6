-- Lemmas for the proofs of this crate.
pub mod TableLaws
pub mod OctetLaws
pub mod StepLaws
pub mod ShortLaws
pub mod LastArm
