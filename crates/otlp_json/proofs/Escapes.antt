-- Strings without escapes.
use Rattle.std.proofs.Common.{◌≡◌, ℕ, false, List, [], ◌∷◌, refl, arith}
use Rattle.std.proofs.lemmas.Bool.{or_parts}
use Rattle.std.proofs.lemmas.Bool.Decides.{nat_tests}
use Rattle.std.specs.List.{flat_map, list_any}
use Rattle.otlp_json.specs.Json.{json_byte, is_escaped}

-- a byte without an escape stands for itself
plain_byte : (b : ℕ) → is_escaped b ≡ false → json_byte b ≡ b ∷ []
plain_byte b plain = grind (arith, nat_tests)

-- a text without escapes stands for itself
pub plain_text : (text : List ℕ) → list_any is_escaped text ≡ false → flat_map json_byte text ≡ text
plain_text [] plain = refl
plain_text (b ∷ bs) plain =
    let tests : (is_escaped b ≡ false) × (list_any is_escaped bs ≡ false) = or_parts (is_escaped b) (list_any is_escaped bs) plain in
    cc (plain_byte b tests.0, plain_text bs tests.1)
