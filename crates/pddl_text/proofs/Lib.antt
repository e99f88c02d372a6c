pub mod Examples
pub mod Injective
pub mod InjectiveTexts
pub mod EqualTexts
pub mod Longest
pub mod TextRows
pub mod Answering
