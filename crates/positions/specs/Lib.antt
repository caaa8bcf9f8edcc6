-- The words of the contracts: rows, the tables that are made of them, and where a member stands by its row. For the readers: what they go by.
pub mod Rows
pub mod Placements
pub mod Lent
