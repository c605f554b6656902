pub mod Arguments
pub mod Accepted
pub mod Checks
pub mod Outputs
pub mod Hypercalls
