-- What other crates may use of this crate's proofs.
pub use Rattle.staleness.proofs.Gone.{gone_once, once_between_sightings, gone_without_own_times}
pub use Rattle.staleness.proofs.Lacking.{gone_differ, gone_have_points, none_missed}
pub use Rattle.staleness.proofs.Unread.{marks_are_enough}
