-- What the walkers answer and are charged, in the words of the walk's definition.
pub mod Left
pub mod Answers
