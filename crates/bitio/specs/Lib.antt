-- What the contracts of this crate cite, and the laws that their callers compose them by.
pub mod Splice
pub mod Puts
pub mod Taken
pub mod SpliceLaws
pub mod StoredLaws
pub mod PutsLaws
pub mod Filled
