pub mod Flags
pub mod Descriptors
pub mod EventStates
pub mod Pages
pub mod Written
pub mod Memory
pub mod Reading
