pub mod Edges
pub mod Machine
pub mod DoorCounts
pub mod Pairs
pub mod KeptPairs
pub mod World
pub mod Saying
