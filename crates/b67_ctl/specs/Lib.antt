pub mod Layout
pub mod Descriptors
pub mod Areas
pub mod Vector
