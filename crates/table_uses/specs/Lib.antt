pub mod Counters
pub mod Lanes
pub mod Gates
