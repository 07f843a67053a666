-- The families that were left, each behind its name (the bridge's own).
use Rattle.std.specs.Prelude.{◌≡◌, ℕ, ⊤, false, List, [], ◌∷◌, length}
use Rattle.std.specs.List.{list_any}
use Rattle.std.specs.Str.{bytes_eq}

-- names, each with the value at its place
abbrev pub named : {V : Type 0} → List (List ℕ) → List V → List (List ℕ × V)
named [] values = []
named (name ∷ names) [] = []
named (name ∷ names) (value ∷ values) = (name, value) ∷ named names values

-- no name stands twice
abbrev pub AreDistinct : List (List ℕ) → Type 0
AreDistinct [] = ⊤
AreDistinct (name ∷ names) = (list_any (bytes_eq name) names ≡ false) × AreDistinct names

-- there is a value for each name, and no name stands twice
pub record AreNamed {V : Type 0} (names : List (List ℕ)) (values : List V) : Type 0 where
  pub each : length values ≡ length names
  pub distinct : AreDistinct names
