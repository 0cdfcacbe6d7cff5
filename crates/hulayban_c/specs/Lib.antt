-- What contracts cite.
pub mod Calls
pub mod Handles
pub mod Numbers
pub mod SeatLaws
pub mod Seats
pub mod Shared
pub mod SharedSeats
pub mod SharedTells
