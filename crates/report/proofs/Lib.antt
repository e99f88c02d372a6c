-- What the rows of a task come to
pub mod Spelled
pub mod Examples
pub mod Longest
-- What the code writes
pub mod Listing
pub mod Answering
