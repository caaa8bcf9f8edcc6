-- What the code of headers answers.
pub mod Headers
