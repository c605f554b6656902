pub mod Eights
pub mod Numerals
