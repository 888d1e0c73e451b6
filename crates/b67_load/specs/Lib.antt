pub mod Objects
pub mod StoredObjects
pub mod Writing
pub mod Listing
pub mod Broken
pub mod Order
