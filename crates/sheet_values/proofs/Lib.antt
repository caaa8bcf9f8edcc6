pub mod Cases
pub mod Remaining
