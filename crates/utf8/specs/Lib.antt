-- The table of text, and what the functions over it promise.
pub mod Table
pub mod Steps
