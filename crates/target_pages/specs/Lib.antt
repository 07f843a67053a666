pub mod Thinned
pub mod Stretches
pub mod SeriesPages
pub mod Outcomes
