-- The steps, one after the other
pub mod SourceSteps
-- What is answered, and the whole way of a text
pub mod Sourced
pub mod Returning
pub mod Longest
-- Examples, and wrong definitions
pub mod Examples
pub mod Refuted
