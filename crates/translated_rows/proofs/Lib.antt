pub mod FurtherRows
pub mod PartRows
pub mod TaskRows
