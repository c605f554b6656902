-- Lemmas.
pub mod Configured
pub mod Entering
pub mod Shown
