-- What a machine keeps and shows, and which account it represents.
pub mod Answering
pub mod Machine
pub mod Views
