pub mod Escapes
pub mod Labels
pub mod LastDigits
pub mod Lists
pub mod Written
mod Cases
