pub mod TextCases
pub mod ElementCases
