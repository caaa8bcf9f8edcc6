-- The answer of a reader's step, and the reader after it.
pub mod Reading
