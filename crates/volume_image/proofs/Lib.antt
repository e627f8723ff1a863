pub mod RowRoom
pub mod RowZeros
