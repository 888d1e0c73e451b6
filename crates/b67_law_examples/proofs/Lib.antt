pub mod Packing
pub mod Laying
pub mod Denoting
pub mod Entries
pub mod Cards
pub mod Programs
