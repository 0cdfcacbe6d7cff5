pub mod Counts
pub mod Covering
pub mod Last
pub mod Names
pub mod Passes
pub mod SharedHistory
