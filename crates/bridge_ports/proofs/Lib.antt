mod InputLaws
mod KnownLaws
pub mod Laws
mod PlanCases
pub mod PlanLaws
pub mod SeenLaws
pub mod WorldCases
pub mod Walks
