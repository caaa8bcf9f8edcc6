pub mod ClearCases
