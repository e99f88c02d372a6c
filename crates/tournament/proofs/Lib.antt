pub mod Games
pub mod Owners
pub mod Root
