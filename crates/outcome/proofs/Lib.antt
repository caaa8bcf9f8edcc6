pub mod AnswerCases
pub mod ArrivalCases
