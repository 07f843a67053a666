pub mod Feeding
pub mod Laws
pub mod Lines
pub mod Told
