pub mod SpansHold
pub mod Full
