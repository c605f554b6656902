pub mod Faults
pub mod Memory
pub mod Reader
pub mod Standard
pub mod Writer
