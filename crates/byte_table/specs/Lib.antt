pub mod Hashes
pub mod Entries
pub mod Links
pub mod Finding
