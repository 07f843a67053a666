-- What the proofs of writers may cite.
pub use Rattle.text_emitter.proofs.Ends.{any_ends}
use Rattle.std.proofs.Common.{◌≡◌, ℕ, List, ◌++◌, fold}
use Rattle.std.proofs.lemmas.Grind.{fold-append}

-- one text behind another: rewrites what stands behind a text to what stands behind its pieces
pub emitted : {S : Type 0} (push : S → ℕ → S) (s : S) (xs ys : List ℕ) → fold push s (xs ++ ys) ≡ fold push (fold push s xs) ys
emitted push s xs ys = fold-append push s xs ys
