-- Words for the contracts of this crate, and what is demanded of the list reader.
pub mod Words
pub mod Reader
