-- Lemmas.
pub mod Standing
pub mod Zeroing
