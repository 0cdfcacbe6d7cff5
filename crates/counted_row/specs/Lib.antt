pub mod Meaning
pub mod Views
pub mod Calls
pub mod Places
pub mod Rules
pub mod Plays
pub use Rattle.pass_names.specs.Passes
pub use Rattle.pass_names.specs.Names
