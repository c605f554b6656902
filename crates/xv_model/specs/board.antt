pub mod Boards
pub mod Validity
