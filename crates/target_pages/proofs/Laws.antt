-- What other crates may use of this crate's proofs.
pub use Rattle.target_pages.proofs.BarePages.{bare_is_read}
pub use Rattle.target_pages.proofs.SeriesPages.{series_are_read, whole_page_left, series_distinct, shown_distinct, shown_series, same_marks, same_tracks, marks_are}
