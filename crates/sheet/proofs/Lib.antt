pub mod Walked
pub mod Whole
