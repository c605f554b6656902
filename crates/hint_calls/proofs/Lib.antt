-- Lemmas.
pub mod Entering
pub mod Told
