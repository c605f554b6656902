-- Lemmas.
pub mod InRange
