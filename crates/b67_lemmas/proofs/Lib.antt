pub mod Members
pub mod Places
pub mod Joins
pub mod Keyed
pub mod Sums
