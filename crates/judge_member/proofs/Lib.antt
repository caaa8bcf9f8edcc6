pub mod PlainCases
pub mod RowRecords
