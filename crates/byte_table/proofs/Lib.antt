pub mod Entries
pub mod Linked
pub mod Found
pub mod Laws
