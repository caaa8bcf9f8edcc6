-- The rules part by part.
pub mod Parts
