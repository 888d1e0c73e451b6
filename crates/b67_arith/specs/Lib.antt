pub mod OnWords
pub mod Numerics
