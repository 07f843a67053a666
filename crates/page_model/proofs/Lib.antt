mod FaultCases
mod PageCases
mod StampCases
pub mod Fronts
pub mod TokenChars
pub mod TextSound
pub mod TextComplete
pub mod OpenSound
pub mod OpenComplete
pub mod LineHeads
pub mod Decides
pub mod DistinctKeys
pub mod Groups
pub mod Prefixes
pub mod Least
pub mod SomeOf
pub mod RightPages
pub mod Filled
pub mod Texts
pub mod KindLaws
pub mod Stamps
pub mod SampleNames
pub mod Laws
