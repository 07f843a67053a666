pub mod Selectors
pub mod SelectorReading
pub mod SelectorSteps
pub mod QuerySteps
pub mod Selection
pub mod SelectionSteps
pub mod Laws
