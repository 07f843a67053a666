-- A label put among others stands behind those at the front that it does not stand before.
use Rattle.std.proofs.Common.{◌≡◌, ℕ, Bool, true, false, not, List, [], ◌∷◌, ◌++◌, take, drop, refl, ap}
use Rattle.std.specs.List.{prefix_len}
use Rattle.std.proofs.Math.Numerals.{one-add}
use Rattle.label_sets.specs.declared.label.Label.{Label}
use Rattle.label_sets.specs.Labels.{name_before, label_inserted}
use Rattle.open_writing.specs.Pieces.{IsLabelPlace, label_with}

-- a label that doesn't stand behind one of this name
abbrev pub stays_before : List ℕ → Label → Bool
stays_before name m = not (name_before name m.name)

pub inserted_split : (l : Label) (ls : List Label) → label_inserted l ls ≡ take (prefix_len (stays_before l.name) ls) ls ++ l ∷ drop (prefix_len (stays_before l.name) ls) ls
inserted_split l [] = refl
inserted_split l (m ∷ ms) = by (name_before l.name m.name) refl (inserted_split l ms)
  where
    by : (b : Bool) → name_before l.name m.name ≡ b → label_inserted l ms ≡ take (prefix_len (stays_before l.name) ms) ms ++ l ∷ drop (prefix_len (stays_before l.name) ms) ms
        → label_inserted l (m ∷ ms) ≡ take (prefix_len (stays_before l.name) (m ∷ ms)) (m ∷ ms) ++ l ∷ drop (prefix_len (stays_before l.name) (m ∷ ms)) (m ∷ ms)
    by true e ih = rw e refl
    by false e ih = rw (e, one-add) (ap (λ ns. m ∷ ns) ih)

-- so the place of a name is behind those
pub gap_at : (name : List ℕ) (ls : List Label) → IsLabelPlace ls name (take (prefix_len (stays_before name) ls) ls) (drop (prefix_len (stays_before name) ls) ls)
gap_at name ls value = inserted_split (label_with name value) ls
