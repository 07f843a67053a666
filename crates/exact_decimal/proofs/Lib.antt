pub mod Powers
pub mod Kept
pub mod Laws
pub mod OneForm
pub mod Values
pub mod Runs
pub mod Parts
pub mod WholeNumbers
pub mod WholeCounts
pub mod SignedWholes
pub mod Reading
pub mod Answered
pub mod TokenChars
mod Cases
pub mod Tens
pub mod Comparing
pub mod Flooring
pub mod Texts
pub mod OrderLaws
pub mod LiteralLengths
pub mod NumberOrder
pub mod Shown
pub mod ReadBack
mod LiteralCases
