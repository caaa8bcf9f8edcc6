-- What the schema's code promises: what a kind is, the directory's relation, what is said of a schema that is held, the representatives of structs, the records of
-- members, and a test at every number.
pub mod Kinds
pub mod Representatives
pub mod Directory
pub mod Parsed
pub mod Records
pub mod Every
