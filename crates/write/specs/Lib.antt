-- The answers of writing: what they say of a sheet as a whole, and that they are the definition's.
pub mod WriteLaws
pub mod Writing
