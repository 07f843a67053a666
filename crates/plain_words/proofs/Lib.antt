pub mod Steps
pub mod WordLaws
pub mod LineLaws
pub mod Finding
pub mod Laws
