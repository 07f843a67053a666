pub mod Turns
pub mod Laws
pub mod Federating
pub mod Serving
