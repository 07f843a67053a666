pub mod DigitCount
mod Ends
pub mod Folds
pub mod Laws
pub mod PrintLaws
