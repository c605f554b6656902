-- What the router keeps, and which account that represents.
pub mod Messages
pub mod Pages
pub mod Passes
pub mod Routing
pub mod Tables
