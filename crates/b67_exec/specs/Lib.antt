pub mod Procedures
pub mod Stores
pub mod Operators
pub mod Near
pub mod Firsts
pub mod Far
