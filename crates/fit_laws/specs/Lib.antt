pub mod EachTimer
pub mod ObjectTurns
pub mod Readings
pub mod Signals
