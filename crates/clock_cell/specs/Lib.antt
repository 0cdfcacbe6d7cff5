pub mod Plays
pub mod Rules
pub mod Turns
pub mod Views
pub mod Words
