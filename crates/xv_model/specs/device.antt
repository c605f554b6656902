pub mod Arguments
pub mod Attributes
pub mod Accepted
pub mod Checks
pub mod Answers
