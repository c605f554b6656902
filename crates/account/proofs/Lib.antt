pub mod Valid
pub mod Digits
pub mod Outputs
pub mod Ranges
