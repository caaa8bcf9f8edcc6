pub mod QuietCases
pub mod PassCases
