-- What other crates may use of this crate's proofs.
pub use Rattle.series_select.proofs.ListEnds.{selector_told, none_told}
pub use Rattle.series_select.proofs.ReadTexts.{spelled-more, spelled_length}
pub use Rattle.series_select.proofs.SelectorComplete.{selector_complete}
pub use Rattle.series_select.proofs.SelectorSound.{selector_sound}
pub use Rattle.series_select.proofs.SpelledTexts.{spelled_once, no_other}
