pub mod EndCases
pub mod MemberCases
pub mod RowCases
