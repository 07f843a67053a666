pub mod Scopes
pub mod Shots
pub mod Points
pub mod Markers
pub mod MarkerGroups
pub mod Metrics
pub mod PlacedMarkers
pub mod Laws
