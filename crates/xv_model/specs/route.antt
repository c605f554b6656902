pub mod Routing
pub mod Flight
pub mod Quiet
pub mod Taking
