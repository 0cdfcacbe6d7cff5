pub mod Alone
pub mod Rows
pub mod Stands
pub mod Turns
pub mod WorkingBases
pub mod WorkingTimers
