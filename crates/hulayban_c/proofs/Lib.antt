-- Lemmas about handles.
pub mod HandleKinds
pub mod HandleWalks
pub mod Handles
pub mod Looking
pub mod Returned
pub mod SeatLaws
pub mod Words
