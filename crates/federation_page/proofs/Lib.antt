mod NameCases
pub mod Founders
pub mod Steps
pub mod Ends
pub mod TargetLabels
pub mod FederatedNames
pub mod FederatedReadings
pub mod FormedReadings
pub mod Groups
pub mod Parts
pub mod Writable
pub mod Keeping
pub mod Sorting
pub mod CodeSteps
pub mod RightGathered
mod GatherCases
pub mod FewGathered
pub mod FilledShown
pub mod Laws
