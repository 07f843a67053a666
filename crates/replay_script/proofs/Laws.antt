-- What other crates may use of this crate's proofs.
pub use Rattle.replay_script.proofs.Verdicts.{one_script, one_fault, never_both, some_verdict}
pub use Rattle.replay_script.proofs.RightLaws.{page_right, raw_right, scripts_are_right}
pub use Rattle.replay_script.proofs.ScriptTargets.{script_target}
pub use Rattle.replay_script.proofs.Spelled.{format_told, format_untold}
