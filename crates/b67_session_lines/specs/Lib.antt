pub mod Ends
pub mod Stops
pub mod Parts
pub mod Moments
