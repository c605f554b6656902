-- Definitions of what a script says. Bytes and lines are in their own order; the work lines of a script, as the
-- entries of an account, the newest first.
pub mod Faults
pub mod Words
pub mod Numbers
pub mod Flags
pub mod Grammar
pub mod FirstWords
pub mod Steps
pub mod Migrating
pub mod Work
pub mod Calling
pub mod Setting
pub mod Operations
pub mod Working
pub mod Header
pub mod Lines
pub mod Stage
pub mod Parser
pub mod Script
pub mod Resting
pub mod Accepted
pub mod Migrations
