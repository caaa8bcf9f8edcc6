-- Elements of a direct list that only count.
pub mod Direct
