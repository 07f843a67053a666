pub mod PageSteps
pub mod PageEnds
pub mod SpelledItems
