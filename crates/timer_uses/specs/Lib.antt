pub mod FdEntries
pub mod Moments
pub mod PosixEntries
pub mod Sleeps
