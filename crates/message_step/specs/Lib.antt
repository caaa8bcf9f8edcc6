-- What the code of a step answers beside the step itself.
pub mod Lead
