mod ConnSteps
mod RequestFronts
mod RequestTrees
mod Targets
pub mod ServeSteps
mod ServingCases
mod AskedLaws
pub mod Laws
