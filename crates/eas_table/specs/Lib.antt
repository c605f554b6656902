-- What is kept of sources.
pub mod Table
