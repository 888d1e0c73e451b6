pub mod Device
pub mod Shelf
pub mod Held
pub mod Extending
pub mod Links
pub mod File
pub mod Memory
pub mod Crooked
