pub mod NumberCases
pub mod CountCases
pub mod VerdictCases
