-- What the layout cursor keeps to.
pub mod Bounds
