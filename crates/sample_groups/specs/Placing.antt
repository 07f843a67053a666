-- The place of a group among the groups (the bridge's own).
use Rattle.std.specs.Prelude.{◌≡◌, ℕ, zero, suc, ◌<◌, List, [], ◌∷◌, length, map, nat_lt, Some, slice_get}
use Rattle.label_sets.specs.declared.label_set.LabelSet.{LabelSet}
use Rattle.sample_groups.specs.Groups.{Gathered, known_group, or_empty, put_group, is_overtaken}

-- the groups with another one at a place
abbrev pub with_group_at : List (LabelSet × Gathered) → ℕ → Gathered → List (LabelSet × Gathered)
with_group_at [] at g = []
with_group_at (e ∷ es) zero g = (e.0, g) ∷ es
with_group_at (e ∷ es) (suc at) g = e ∷ with_group_at es at g

-- the group with these labels, or an empty one, stands at the place, and to change it there is to put it into the groups; it is overtaken where others stand behind it
pub record HasPlace (old new : List (LabelSet × Gathered)) (labels : LabelSet) (place : ℕ) : Type 0 where
  pub within : place < length new
  pub group : slice_get (map (λ (e : LabelSet × Gathered). e.1) new) place ≡ Some (or_empty (known_group old labels))
  pub overtaken : nat_lt (suc place) (length new) ≡ is_overtaken old labels
  pub put : (g : Gathered) → with_group_at new place g ≡ put_group old labels g
