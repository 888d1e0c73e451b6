pub mod Tagged
pub mod Packed
pub mod Operands
pub mod Couples
pub mod Numbers
pub mod Sectors
pub mod Common
