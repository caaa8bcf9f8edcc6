pub mod ListCases
