pub mod Inside
pub mod Access
