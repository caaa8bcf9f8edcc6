pub mod FlatCases
pub mod ExtentCases
pub mod PartCases
pub mod ObjectCases
pub mod SimpleCases
pub mod ElementCases
pub mod MarkCases
