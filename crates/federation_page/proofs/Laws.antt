-- What other crates may use of this crate's proofs.
pub use Rattle.federation_page.proofs.FilledShown.{filled_gathered}
