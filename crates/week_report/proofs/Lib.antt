-- What the definitions give
pub mod Examples
pub mod Longest
pub mod Front
-- What the code writes
pub mod Listing
pub mod Answering
