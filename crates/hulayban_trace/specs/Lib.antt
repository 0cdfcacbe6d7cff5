-- What contracts cite.
pub mod Checks
