pub mod Stopped
pub mod Statuses
pub mod Rests
pub mod Joins
