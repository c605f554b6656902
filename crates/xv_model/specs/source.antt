pub mod PqTable
pub mod Pages
pub mod Pairs
pub mod Notices
pub mod Eas
