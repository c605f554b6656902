-- What a ring holds, what follows from it, and what changes it.
pub mod Priorities
pub mod Ring
pub mod Rings
