pub mod ClosingRows
