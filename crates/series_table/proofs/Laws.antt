-- What other crates may use of this crate's proofs.
pub use Rattle.series_table.proofs.Moved.{track-without_second}
pub use Rattle.series_table.proofs.Shows.{shown_within}
