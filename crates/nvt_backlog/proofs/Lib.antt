-- Lemmas.
pub mod Connected
