pub mod Accepting
pub mod Packing
