-- What other crates may use of this crate's proofs.
pub use Rattle.line_scan.proofs.Quotes.{tail_slice, other_byte}
pub use Rattle.line_scan.proofs.Utf8.{blank_small, blanks_ascii, utf8_tail, utf8_rest, utf8_drop, utf8_shorter, utf8_behind, utf8_unescaped, help_ascii, quote_ascii}
pub use Rattle.line_scan.proofs.LineFaults.{line-not_utf8, line-read}
pub use Rattle.line_scan.proofs.NoLabels.{text-no_labels, open-no_labels}
