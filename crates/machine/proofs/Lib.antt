-- Lemmas.
pub mod Accesses
pub mod Burdens
pub mod Notices
pub mod OldPairs
pub mod Refusals
pub mod Silent
pub mod Starting
pub mod Stepping
pub mod Words
