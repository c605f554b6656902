pub mod Appending
pub mod Cutting
pub mod Places
pub mod Puts
