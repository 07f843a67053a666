-- What other crates may use of this crate's proofs.
pub use Rattle.family_rules.proofs.Values.{IsPlain, IsQuantiles, IsValueOf, HaveValuesOf, HasRisingBuckets, page_values}
pub use Rattle.family_rules.proofs.RightValues.{free_lines, HaveKindValues, right_values}
pub use Rattle.family_rules.proofs.Faults.{Fits, AreFit, none_above, fit_lines, sound_samples, AreTogether, together_samples, no_forbidden}
pub use Rattle.family_rules.proofs.Kept.{reversed_samples}
