pub mod Shapes
pub mod Stacks
pub mod MachineView
pub mod Represents
pub mod Changes
pub mod HeldOtherwise
pub mod Common
