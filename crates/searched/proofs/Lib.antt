pub mod Made
pub mod Claimed
pub mod Small
pub mod Examples
