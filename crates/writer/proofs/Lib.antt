pub mod Blocks
pub mod Putting
pub mod Copying
