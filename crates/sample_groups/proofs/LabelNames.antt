-- The names of labels: whether a set has one.
use Rattle.std.proofs.Common.{◌≡◌, ℕ, Bool, true, false, cond, ◌||◌, List, [], ◌∷◌, find, Option, Some, None, is_some, Bor, refl}
use Rattle.std.specs.Option.{option_map, option_copied}
use Rattle.std.specs.Str.{bytes_eq}
use Rattle.label_sets.specs.declared.label.Label.{Label}
use Rattle.label_sets.specs.Labels.{label_value, has_name}

pub some_copied : {A : Type 0} (r : Option (Bor A)) → is_some r ≡ is_some (option_copied r)
some_copied None = refl
some_copied (Some x) = refl

-- a label has a value exactly where the set has its name
pub has_value_name : (name : List ℕ) (ls : List Label) → is_some (label_value name ls) ≡ has_name ls name
has_value_name name [] = refl
has_value_name name (l ∷ ls) = by (bytes_eq l.name name) (has_value_name name ls)
  where
    by : (b : Bool) → is_some (label_value name ls) ≡ has_name ls name
        → is_some (option_map (λ (m : Label). m.value) (cond b (Some l) (find (λ (m : Label). bytes_eq m.name name) ls))) ≡ (b || has_name ls name)
    by true rest = refl
    by false rest = rest
