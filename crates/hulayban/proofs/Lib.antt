pub mod Whole
pub mod Hands
pub mod Rooms
pub mod Posts
pub mod Waits
pub mod Shares
