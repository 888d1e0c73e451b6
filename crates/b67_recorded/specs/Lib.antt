pub mod Telling
pub mod Taken
pub mod Given
pub mod Mirror
pub mod Ends
pub mod Files
pub mod Faithful
pub mod Recorded
