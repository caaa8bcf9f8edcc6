pub mod Fields
pub mod Parts
pub mod Runs
pub mod Takes
pub mod Turns
pub mod Words
