pub mod RunningContext
pub mod Displays
pub mod LiveCells
pub mod Cells
pub mod LiveEnds
pub mod Ends
pub mod Own
