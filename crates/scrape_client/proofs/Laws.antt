-- What other crates may use of this crate's proofs.
pub use Rattle.scrape_client.proofs.SampleLimit.{few_samples}
