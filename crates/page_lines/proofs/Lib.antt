pub mod Ends
pub mod Telling
pub mod TellingOn
pub mod Standing
pub mod PageEnds
mod Cases
pub mod Laws
