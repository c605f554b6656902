-- What is kept of virtual processors, and which account it represents.
pub mod Accounts
pub mod Vps
