mod PageOutcomeCases
mod SampleLimit
mod Exchanging
mod PageReading
mod Scrapes
pub mod Laws
