-- Label sets: labels in byte order of their names, names distinct, no empty value.
-- Prometheus data model, "Metric names and labels"; OpenMetrics 1.0, "Labels" and "LabelSet".
use Rattle.std.specs.Prelude.{◌≡◌, ℕ, zero, suc, ◌<◌, Bool, true, false, not, ◌&&◌, ◌||◌, List, [], ◌∷◌, ◌++◌, map, filter, find, length, codes, Option, Some, None, option_map, if◌then◌else◌, is_none}
use Rattle.std.specs.List.{list_any}
use Rattle.std.specs.Str.{bytes_eq}
use Rattle.std.specs.Cmp.Lexicographic.{slice_cmp, pointwise}
use Rattle.std.specs.Ordering.{nat_cmp, is_lt}
use Rattle.label_sets.specs.declared.label.Label.{Label}
use Rattle.label_sets.specs.declared.label_set.LabelSet.{LabelSet}

-- the first name stands before the second in byte order
abbrev pub name_before : List ℕ → List ℕ → Bool
name_before a b = is_lt (slice_cmp nat_cmp a b)

-- an empty value says that the label is absent
abbrev pub has_value : Label → Bool
has_value l = not (bytes_eq l.value [])

-- the label in its place among sorted labels
abbrev pub label_inserted : Label → List Label → List Label
label_inserted l [] = l ∷ []
label_inserted l (m ∷ ms) = if name_before l.name m.name then l ∷ m ∷ ms else m ∷ label_inserted l ms

-- the labels in byte order of their names
abbrev pub labels_sorted : List Label → List Label
labels_sorted [] = []
labels_sorted (l ∷ ls) = label_inserted l (labels_sorted ls)

-- the set that written labels make
abbrev pub label_set : List Label → LabelSet
label_set pairs = labels_sorted (filter has_value pairs)

-- some label has this name
abbrev pub has_name : List Label → List ℕ → Bool
has_name ls name = list_any (λ (l : Label). bytes_eq l.name name) ls

-- the first of the written labels whose name an earlier one has, counted from 0
abbrev pub repeated_at : List Label → ℕ → List Label → Option ℕ
repeated_at earlier i [] = None
repeated_at earlier i (l ∷ ls) = if has_name earlier l.name then Some i else repeated_at (l ∷ earlier) (suc i) ls

-- no two of the written labels have one name
abbrev pub has_distinct_names : List Label → Bool
has_distinct_names ls = is_none (repeated_at [] 0 ls)

-- the value of a label, where the set has it
abbrev pub label_value : List ℕ → LabelSet → Option (List ℕ)
label_value name ls = option_map (λ (l : Label). l.value) (find (λ (l : Label). bytes_eq l.name name) ls)

-- the set without the label of this name
abbrev pub without_label : List ℕ → LabelSet → LabelSet
without_label name ls = filter (λ (l : Label). not (bytes_eq l.name name)) ls

-- `exported_` put before a name as often as is needed until no label has it; the first number bounds how often
abbrev pub exported_name : ℕ → LabelSet → List ℕ → List ℕ
exported_name zero ls name = name
exported_name (suc more) ls name =
    let next = codes "exported_" ++ name in
    if has_name ls next then exported_name more ls next else next

-- `exported_` put before a name so many times
abbrev pub exported_times : ℕ → List ℕ → List ℕ
exported_times zero name = name
exported_times (suc k) name = codes "exported_" ++ exported_times k name

-- the new name: `exported_` put before a name at least once, and no oftener than until no label has it
pub record IsExportedName (ls : List Label) (name new : List ℕ) : Type 0 where
  pub times : ℕ
  pub some : 0 < times
  pub is : new ≡ exported_times times name
  pub free : has_name ls new ≡ false
  pub least : (k : ℕ) → 0 < k → k < times → has_name ls (exported_times k name) ≡ true

-- a name that the target's own labels have
abbrev pub is_target_name : List ℕ → Bool
is_target_name name = bytes_eq name (codes "job") || bytes_eq name (codes "instance")

-- some label has such a name
abbrev pub has_target_name : List Label → Bool
has_target_name ls = list_any (λ (l : Label). is_target_name l.name) ls

-- the label, with another name where it is one that the target's own labels have
abbrev pub label_renamed : LabelSet → Label → Label
label_renamed ls l =
    if is_target_name l.name
    then record { name = exported_name (length ls) ls l.name; value = l.value } else l

-- a scraped label set, so that the target's own `job` and `instance` can be added to it
abbrev pub renamed : LabelSet → LabelSet
renamed ls = labels_sorted (map (label_renamed ls) ls)

-- one name and one value
abbrev pub label_eq : Label → Label → Bool
label_eq a b = bytes_eq a.name b.name && bytes_eq a.value b.value

-- the sets have the same labels
abbrev pub label_sets_eq : LabelSet → LabelSet → Bool
label_sets_eq a b = pointwise label_eq a b
