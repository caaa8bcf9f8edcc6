-- What the test of content's bytes relies on.
pub mod Fit
