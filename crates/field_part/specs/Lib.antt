-- What stands before a struct's member.
pub mod Before
