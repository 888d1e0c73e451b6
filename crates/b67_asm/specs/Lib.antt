pub mod Names
pub mod Scope
pub mod Putting
pub mod RowPutting
pub mod Blocks
pub mod Bounds
pub mod Rows
