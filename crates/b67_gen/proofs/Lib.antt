pub mod Drawing
pub mod Cards
pub mod Read
