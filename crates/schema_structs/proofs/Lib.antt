pub mod FieldSizes
pub mod StructRules
pub mod Representing
