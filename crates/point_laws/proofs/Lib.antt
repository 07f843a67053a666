mod PointLaws
mod Parts
mod GonePoints
mod PageMetrics
mod KindedMetrics
mod RightSeries
mod ScopeNames
mod Resources
mod ScopeMarks
mod ScopePoints
mod MarkerCases
pub mod Marks
pub mod Laws
