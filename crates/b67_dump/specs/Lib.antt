pub mod Dump
pub mod Walk
pub mod Laws
pub mod Landmarks
pub mod Records
pub mod Put
pub mod Analysed
pub mod Example
