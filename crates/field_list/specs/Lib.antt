-- What the loop over a list's steps has still to do.
pub mod Stepping
