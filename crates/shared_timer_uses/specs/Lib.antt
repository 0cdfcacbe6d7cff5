pub mod Counting
pub mod Handlers
pub mod Callers
