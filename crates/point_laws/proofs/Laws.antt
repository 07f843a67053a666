-- What other crates may use of this crate's proofs.
pub use Rattle.point_laws.proofs.Marks.{events_mark_the_gone}
