pub mod Instants
pub mod Writes
