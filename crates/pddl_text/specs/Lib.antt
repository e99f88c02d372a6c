pub mod Pddl
pub mod Writing
pub mod Outcomes
pub mod Answers
