pub mod Six
pub mod NamesLaw
pub mod Laid
pub mod Taking
pub mod Parts
pub mod Program
pub mod Entries
mod Digits
