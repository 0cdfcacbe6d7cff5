pub mod Counts
pub mod Names
pub mod Passes
pub mod SharedHistory
