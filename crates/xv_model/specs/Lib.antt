-- Definitions. An account is a list of entries, the newest first: x ∷ h is the account h, and then the entry x.
-- Bytes, lines and the messages in flight are lists in their own order, the oldest first.
pub mod board
pub mod account
pub mod source
pub mod end
pub mod route
pub mod call
pub mod device
pub mod processor
pub mod laws
