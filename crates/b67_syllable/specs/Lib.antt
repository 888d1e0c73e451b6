pub mod Kinds
pub mod Placed
