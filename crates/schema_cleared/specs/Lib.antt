-- What the contracts of `schema_cleared` are said in.
pub mod Rest
