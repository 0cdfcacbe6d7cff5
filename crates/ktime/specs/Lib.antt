pub mod Readings
pub mod Times
pub mod Clocks
