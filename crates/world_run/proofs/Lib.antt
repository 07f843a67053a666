mod Tracks
mod Homes
mod Ended
mod Served
pub mod Laws
