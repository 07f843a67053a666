-- What other crates may use of this crate's proofs.
pub use Rattle.page_commands.proofs.PageAnswerLaws.{page_once_at, page_form}
