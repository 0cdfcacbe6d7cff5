pub use Rattle.lane_notes.specs.Worlds
pub use Rattle.lane_notes.specs.Runs
pub mod Crews
