pub mod Spans
pub mod Turns
pub mod Overlaid
pub mod AreasEvicted
pub mod Written
pub mod Examples
