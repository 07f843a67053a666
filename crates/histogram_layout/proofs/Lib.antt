pub mod Sums
pub mod Bounds
