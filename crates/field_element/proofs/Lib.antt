pub mod ElementCases
pub mod StartCases
pub mod OffsetCases
