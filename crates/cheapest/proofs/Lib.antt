pub mod Handed
pub mod Copied
