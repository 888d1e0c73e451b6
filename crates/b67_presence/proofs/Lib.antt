pub mod Descriptors
pub mod Placing
pub mod Contents
pub mod Paged
pub mod Ways
pub mod Evicting
pub mod Upward
pub mod Firsts
pub mod Rooms
pub mod Resort
pub mod Forcing
mod Beside
pub mod Others
pub mod Seen
pub mod Again
pub mod Wants
pub mod Ends
pub mod Refusals
