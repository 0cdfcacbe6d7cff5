pub mod Traced
pub mod Fits
pub mod Knowledge
pub mod Holding
pub mod Checkers
