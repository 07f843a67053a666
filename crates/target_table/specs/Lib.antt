pub mod Runs
pub mod Machine
pub mod Tables
pub mod Search
pub mod Paging
pub mod Mirrors
pub mod Laws
