pub mod Tops
pub mod Elements
pub mod Running
pub mod Called
pub mod Meanings
