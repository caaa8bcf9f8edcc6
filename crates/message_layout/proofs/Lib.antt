pub mod Widths
pub mod Booleans
pub mod Places
