pub mod Digits
pub mod LabelSteps
pub mod LineSteps
