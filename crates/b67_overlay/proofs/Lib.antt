pub mod Families
pub mod Turning
pub mod Hiding
pub mod Copies
pub mod Searching
pub mod Chains
pub mod Dropping
pub mod Sectors
pub mod Finish
pub mod Visits
pub mod Shedding
pub mod Answered
mod Claiming
pub mod Example
