-- The list that a list reader goes over, and what its steps answer.
pub mod Elements
pub mod Listed
