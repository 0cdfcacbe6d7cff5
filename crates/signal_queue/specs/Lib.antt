pub mod Turns
pub mod Rules
pub mod Views
pub mod Calls
pub mod Ends
pub mod Locks
