pub mod Answers
pub mod Bases
pub mod Kept
pub mod Runs
