pub mod Brought
pub mod Brings
pub mod Bringing
pub mod Paging
