-- Bytes that are cut at a name.
-- Prometheus text format 0.0.4, "Text format details".
use Rattle.std.specs.Prelude.{◌≡◌, ℕ, Bool, true, List, Option, Some, take_while, IsUtf8}
use Rattle.label_sets.specs.Lists.{rest_while}
use Rattle.line_scan.specs.declared.scan.Cut.{Cut}

-- the front is all characters that a name may have, it is a name, and the rest stands behind it
pub record IsNamed (is_name : List ℕ → Bool) (is_char : ℕ → Bool) (bytes : List ℕ) (cut : Cut) : Type 0 where
  pub named : is_name (take_while is_char bytes) ≡ true
  pub front : cut.front.now ≡ take_while is_char bytes
  pub rest : cut.rest.now ≡ rest_while is_char bytes
  pub utf8_front : IsUtf8 cut.front.now
  pub utf8_rest : IsUtf8 bytes → IsUtf8 cut.rest.now

-- the two parts are those that were found at the front of bytes
pub record IsCutAt (found : Option (List ℕ × List ℕ)) (bytes : List ℕ) (cut : Cut) : Type 0 where
  pub found_is : found ≡ Some (cut.front.now, cut.rest.now)
  pub utf8_front : IsUtf8 cut.front.now
  pub utf8_rest : IsUtf8 bytes → IsUtf8 cut.rest.now
