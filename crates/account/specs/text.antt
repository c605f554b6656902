pub mod Numbers
pub mod Operations
pub mod Outcomes
pub mod Entry
pub mod Header
pub mod Report
pub mod Refusal
