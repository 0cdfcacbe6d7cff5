pub mod Moments
pub mod Refusing
