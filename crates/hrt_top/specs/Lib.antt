pub mod Transfer
pub mod Status
pub mod Command
pub mod Engine
pub mod Top
