-- What the contracts of this crate cite.
pub mod Chunk
pub mod Reversed
