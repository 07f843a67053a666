-- What other crates may use of this crate's proofs.
pub use Rattle.bridge_config.proofs.Verdicts.{one_document, one_configuration, one_fault, never_both, some_verdict}
pub use Rattle.bridge_config.proofs.RightLaws.{numbers_are_right, configs_are_right}
