-- What other crates may use of this crate's proofs.
pub use Rattle.page_server.proofs.ServeSteps.{replied, not_heard}
