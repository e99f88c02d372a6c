pub mod Pddl
pub mod Rows
pub mod Pieces
pub mod Writing
