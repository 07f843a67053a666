-- What other crates may use of this crate's proofs.
pub use Rattle.open_writing.proofs.LineCounts.{families_counted}
