pub mod Consistent
pub mod Due
pub mod LeastWait
pub mod Opened
pub mod Runs
