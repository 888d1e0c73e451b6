pub mod Fetches
pub mod Indexes
pub mod Stores
