-- Texts of a sheet.
pub mod Texts
