mod SelectorCases
mod PageCases
pub mod FrontLaws
pub mod WrittenTexts
pub mod SelectorSound
pub mod SelectorComplete
pub mod MatcherSteps
pub mod ReadTexts
pub mod Kept
pub mod SelectedPages
pub mod ListEnds
pub mod SpelledTexts
pub mod Laws
