-- What is kept of ENDs, and what their queues and a guest's reader do.
pub mod Accounts
pub mod Ends
pub mod Queues
pub mod Reader
