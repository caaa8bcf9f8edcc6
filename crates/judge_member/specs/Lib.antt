-- What the code of members answers.
pub mod Records
