-- What the contracts of this crate cite.
pub mod Clauses
pub mod MessageBits
pub mod Readable
pub mod Stepping
