pub mod HeaderCases
pub mod SizeCases
pub mod ContentCases
