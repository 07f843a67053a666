-- Texts without escapes.
use Rattle.std.proofs.Common.{◌≡◌, ℕ, false, List, [], ◌∷◌, refl, arith}
use Rattle.std.proofs.lemmas.Bool.{or_parts}
use Rattle.std.proofs.lemmas.Bool.Decides.{nat_tests}
use Rattle.std.specs.List.{list_any}
use Rattle.open_writing.specs.Pieces.{is_marked}
use Rattle.open_writing.specs.Writing.{escaped, escaped_char}

-- a byte without an escape stands for itself
unmarked_char : (b : ℕ) → is_marked b ≡ false → escaped_char b ≡ b ∷ []
unmarked_char b plain = grind (arith, nat_tests)

-- a text without escapes stands for itself
pub unmarked_escaped : (text : List ℕ) → list_any is_marked text ≡ false → escaped text ≡ text
unfolding escaped
unmarked_escaped [] plain = refl
unmarked_escaped (b ∷ bs) plain =
    let tests : (is_marked b ≡ false) × (list_any is_marked bs ≡ false) = or_parts (is_marked b) (list_any is_marked bs) plain in
    cc (unmarked_char b tests.0, unmarked_escaped bs tests.1)
