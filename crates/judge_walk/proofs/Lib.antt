pub mod AdmitCases
pub mod WalkCases
pub mod ListCases
pub mod ReferenceCases
pub mod DirectCases
