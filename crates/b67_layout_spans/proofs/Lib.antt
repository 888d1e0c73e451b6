pub mod Residents
pub mod Lies
pub mod Sessions
pub mod Covers
pub mod FullDevice
