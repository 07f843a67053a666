-- What other crates may use of this crate's proofs.
pub use Rattle.target_core.proofs.Cumulative.{rising_cumulative}
