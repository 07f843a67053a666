mod Placing
mod Grouping
mod Identities
mod Grouped
mod FamilyMetrics
mod Placed
mod Ids
pub mod Laws
