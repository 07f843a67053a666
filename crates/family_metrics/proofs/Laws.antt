-- What other crates may use of this crate's proofs.
pub use Rattle.family_metrics.proofs.Placing.{one_more, pair_placed, pair_passed, pairs_end}
pub use Rattle.family_metrics.proofs.Grouping.{firsts, firsts-snoc, any_first, any_turned, own_none, one_changed, firsts_distinct}
pub use Rattle.family_metrics.proofs.Identities.{by_bytes}
pub use Rattle.family_metrics.proofs.FamilyMetrics.{named, own_places, later_places, next_family}
