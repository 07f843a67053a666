mod Cumulative
mod AlikeReadings
mod PageScopes
mod Attributes
mod Stepping
mod EmptyPast
mod Undescribed
mod Checkpointed
mod Rising
mod MarkedOnce
mod Cases
mod CaseWords
mod OwnTimeCases
mod ScopeCases
mod ExemplarCases
pub mod Laws
