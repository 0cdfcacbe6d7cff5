pub mod Alike
pub mod Keeping
pub mod Taking
pub mod Sides
pub mod Rooms
pub mod NextSignals
