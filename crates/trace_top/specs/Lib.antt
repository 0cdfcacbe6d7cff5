pub mod Status
pub mod Texts
pub mod Checking
pub mod Command
