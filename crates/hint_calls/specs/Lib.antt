-- What hypercalls reply, accept and change.
pub mod Accepted
pub mod Changes
pub mod Parts
pub mod Replies
