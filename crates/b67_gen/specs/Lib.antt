pub mod Generated
pub mod Worked
pub mod Reads
