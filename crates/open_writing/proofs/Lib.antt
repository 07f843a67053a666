pub mod Laws
pub mod Escapes
pub mod LineCounts
pub mod Places
pub mod Parts
pub mod Lasts
mod WriteCases
mod FormCases
mod WritableCase
