-- What other crates may use of this crate's proofs.
pub use Rattle.sample_groups.proofs.BesideLaws.{zip-snoc, beside_none, beside_more, found_beside, missing_beside, taken_off, fewer_left}
pub use Rattle.sample_groups.proofs.Steps.{shared_group, one_part_more}
pub use Rattle.sample_groups.proofs.Samples.{same_time}
pub use Rattle.sample_groups.proofs.Orders.{order_kept}
pub use Rattle.sample_groups.proofs.Whole.{whole_kept}
pub use Rattle.sample_groups.proofs.Beginning.{first_fits}
pub use Rattle.sample_groups.proofs.Made.{readings_made}
pub use Rattle.sample_groups.proofs.Cumulative.{AreRising, RiseToUp, whole_rise}
