pub mod Decimal
pub mod Digits
pub mod Signed
pub mod Writing
pub mod Examples
