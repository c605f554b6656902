-- Lemmas.
pub mod Entering
pub mod Placing
pub mod Ranges
pub mod Steps
