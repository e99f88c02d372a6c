pub mod Answering
pub mod RoundTrip
pub mod Longest
pub mod TextJudged
