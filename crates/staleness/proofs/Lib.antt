pub mod Cases
pub mod Gone
pub mod Lacking
pub mod Laws
mod Unread
