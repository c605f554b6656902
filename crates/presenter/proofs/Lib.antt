-- Lemmas.
pub mod Fitting
pub mod Keeping
pub mod Moved
pub mod Users
