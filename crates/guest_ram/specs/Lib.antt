-- What memory is.
pub mod Ram
