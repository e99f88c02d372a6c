pub mod Counting
pub mod Probing
pub mod Putting
