pub mod ReachCases
pub mod StepCases
pub mod LeadCases
pub mod Inside
pub mod MemberCases
pub mod StructCases
