pub mod Keyed
pub mod Lists
