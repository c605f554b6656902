pub mod Applied
pub mod Packing
pub mod Word
