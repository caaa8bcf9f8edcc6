pub mod StoreCases
pub mod BitCases
pub mod PutCases
pub mod OctetCases
