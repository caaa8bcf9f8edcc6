pub mod Storing
pub mod Placing
