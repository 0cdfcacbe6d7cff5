pub mod Lines
pub mod Fitting
pub mod Wrong
pub mod BesideRuns
pub mod FullQueue
