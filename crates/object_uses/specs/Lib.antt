pub mod Callers
pub mod Stands
pub mod Sides
pub mod Waiting
pub mod Queued
