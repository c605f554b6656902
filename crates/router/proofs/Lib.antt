-- Lemmas.
pub mod Configured
pub mod Counted
pub mod Escalated
pub mod Keeping
pub mod Loaded
pub mod Memory
pub mod Passed
pub mod Ran
pub mod Read
pub mod Ranges
pub mod Routed
pub mod Sent
pub mod Taken
