pub mod Words
pub mod Names
pub mod Fields
pub mod Reading
