pub mod Left
pub mod Words
pub mod Returned
pub mod Procedures
