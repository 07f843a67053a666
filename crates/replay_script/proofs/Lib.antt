pub mod Found
pub mod Spelled
pub mod Verdicts
pub mod RightLaws
pub mod ScriptTargets
pub mod Kept
pub mod KeptRecords
pub mod Fronts
pub mod ReadOn
pub mod Laws
mod Cases
mod HonorCases
