pub mod Claims
pub mod Counting
pub mod Knowing
pub mod Turning
