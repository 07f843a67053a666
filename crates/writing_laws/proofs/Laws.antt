-- What other crates may use of this crate's proofs.
pub use Rattle.writing_laws.proofs.FewLines.{total, total_is, total-le, total-append, total-twice, total-map, at_most_one, same_bytes, few_lines, few_readings}
pub use Rattle.writing_laws.proofs.ShortLines.{total_filtered, total_inserted}
pub use Rattle.writing_laws.proofs.ReadPages.{read_pages}
pub use Rattle.writing_laws.proofs.ReadBack.{reads_back, writables_are_open_forms}
pub use Rattle.writing_laws.proofs.ReadItems.{kind_in_open}
pub use Rattle.writing_laws.proofs.ReadLabels.{written_own}
pub use Rattle.writing_laws.proofs.ShortPages.{escaped_length}
pub use Rattle.writing_laws.proofs.ThinnerPages.{thinner}
pub use Rattle.writing_laws.proofs.ShortFamilies.{kind_length, writes_short_lines}
