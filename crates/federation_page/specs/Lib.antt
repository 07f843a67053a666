pub mod Candidates
pub mod Conflicts
pub mod Founding
pub mod Gathering
pub mod Laws
pub mod SetsMade
