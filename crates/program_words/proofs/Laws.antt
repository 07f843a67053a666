-- What other crates may use of this crate's proofs.
pub use Rattle.program_words.proofs.CommandLaws.{one_command, pieces_take}
pub use Rattle.program_words.proofs.AnswerLaws.{any_bytes, fixed_answer, same_text, AreSame, fixed_once, same_input}
pub use Rattle.program_words.proofs.StatusLaws.{told_or_not, done_told, same_code}
pub use Rattle.program_words.proofs.StopLaws.{stop_told, stop_untold, stop_through, stop_in_part, stop_fault, stop_has, stop_leaves, stop_undone, stop_written, stop_formed, stop_not_read, tells_fault}
