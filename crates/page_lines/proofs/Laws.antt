-- What other crates may use of this crate's proofs.
pub use Rattle.page_lines.proofs.TellingOn.{long_next, told_first, whole_lines}
