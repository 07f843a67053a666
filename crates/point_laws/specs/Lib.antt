pub mod PageLaws
pub mod MarkerLaws
