-- What other crates may use of this crate's proofs.
pub use Rattle.world_run.proofs.Served.{served_changes, unserved_changes}
