-- What the KVM device's calls accept and change.
pub mod Accepted
pub mod Changes
pub mod Parts
