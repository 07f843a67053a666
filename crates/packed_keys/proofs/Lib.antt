mod Cases
pub mod Laws
pub mod Packed
pub mod Steps
pub mod Taken
pub mod Put
pub mod Read
pub mod Seen
pub mod Spans
pub mod Series
