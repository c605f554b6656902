pub mod Priorities
pub mod RingOps
pub mod Phases
pub mod Pending
pub mod Registers
pub mod Moves
pub mod Accesses
