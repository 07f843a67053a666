-- What other crates may use of this crate's proofs.
pub use Rattle.run_command.proofs.RunAnswerLaws.{run_stops, report_left, stop_left, unbegun_left, cut_left, files_stay, file_through, file_in_part, file_fault}
