pub mod Places
pub mod Rings
pub mod Rests
pub mod Rules
pub mod Logs
pub mod Calls
pub mod Plays
