pub mod Handoffs
pub mod Seated
