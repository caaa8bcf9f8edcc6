-- Lemmas for the proofs of this crate.
pub mod Bits
pub mod Bytes
pub mod Floats
