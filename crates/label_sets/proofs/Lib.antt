mod Cases
pub mod Laws
pub mod ListLaws
pub mod NewNames
pub mod Order
pub mod Places
pub mod Repeats
pub mod Same
pub mod Seen
