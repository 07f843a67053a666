-- What other crates may use of this crate's proofs.
pub use Rattle.script_commands.proofs.ScriptAnswerLaws.{script_once_at, script_form}
pub use Rattle.script_commands.proofs.ShownLaws.{replay_with_once, showable, page_behind, bodies_cut}
pub use Rattle.script_commands.proofs.VisitLaws.{no_bodies}
pub use Rattle.script_commands.proofs.EndLaws.{run_reported, none_reported, report_once}
pub use Rattle.script_commands.proofs.ShelfLaws.{free_pairs, script_shelved, load_shelved}
