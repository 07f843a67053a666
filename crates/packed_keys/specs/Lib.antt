pub mod Packing
pub mod Texts
pub mod Places
pub mod Partings
pub mod PackedSets
