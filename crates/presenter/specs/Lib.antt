-- What presentations and moves of contexts do to processors and rings.
pub mod Contexts
pub mod Moves
