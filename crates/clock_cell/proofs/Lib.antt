pub mod Counting
pub mod Frames
pub mod Longer
pub mod Looking
pub mod Opening
pub mod Splitting
pub mod Taking
