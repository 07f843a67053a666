-- What other crates may use of this crate's proofs.
pub use Rattle.start_times.proofs.RowLaws.{reading_is_of, here_of, later_is, start_is, row_is_enough, row_of_sight, row_of_miss, start_without_past}
pub use Rattle.start_times.proofs.FewRows.{rows_are_few}
pub use Rattle.start_times.proofs.Times.{start_is_not_later, moment_is, later_than_past, none_is_late}
pub use Rattle.start_times.proofs.Stays.{start_stays, taken_behind_misses}
pub use Rattle.start_times.proofs.PlainLaws.{same_start, same_place, same_start_there}
pub use Rattle.start_times.proofs.KeptRows.{row_in_entries, distinct_rows, rows_track_again, row_of_past, past_ascends, rows_are_those_of_past}
