pub mod GeneratedPages
pub mod GeneratedScripts
