pub mod Unused
pub mod Ends
pub mod Taken
pub mod Serving
