pub mod Near
pub mod Opened
