pub mod Histories
pub mod Sleeps
pub mod Expiries
pub mod AsKind
