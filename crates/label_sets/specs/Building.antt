-- What the steps that build a label set leave: words of this crate's own functions.
-- The bridge's own.
use Rattle.std.specs.Prelude.{◌≡◌, ℕ, ◌<◌, ◌≤◌, Bool, true, false, List, [], ◌∷◌, ◌++◌, length, take, drop, map, if◌then◌else◌, Option, Some, None}
use Rattle.std.specs.List.{HoldsAt}
use Rattle.std.specs.Str.{bytes_eq}
use Rattle.std.specs.Ordering.{eq_by_cmp}
use Rattle.std.specs.List.Sorted.{IsStrictlySortedBy}
use Rattle.label_sets.specs.declared.label.Label.{Label}
use Rattle.label_sets.specs.declared.label_set.LabelFault.{LabelFault}
use Rattle.label_sets.specs.declared.label_set.LabelFault.TheVariants.{TooMany, Twice, Memory}
use Rattle.label_sets.specs.Sets.{by_name}
use Rattle.label_sets.specs.Labels.{has_name, labels_sorted, repeated_at}

-- when building answers a fault: too many pairs, counted with their empty values, go before a name that stands twice
abbrev pub FaultOf : List Label → ℕ → LabelFault → Type 0
FaultOf pairs most TooMany = most < length pairs
FaultOf pairs most (Twice i) = (length pairs ≤ most) × (repeated_at [] 0 pairs ≡ Some i)
FaultOf pairs most Memory = length pairs ≤ most

-- the place where a name belongs among labels whose names ascend, or none where a label has it
abbrev pub BelongsAt : List Label → List ℕ → Option ℕ → Type 0
BelongsAt ls name None = has_name ls name ≡ true
BelongsAt ls name (Some at) = (at ≤ length ls) × ((l : Label) → l.name ≡ name → IsStrictlySortedBy by_name (take at ls ++ l ∷ drop at ls))

-- the labels in byte order of their names, unless two have one name: then the first whose name an earlier one has
abbrev pub Sorts : List Label → Option ℕ → List Label → Type 0
Sorts old None new = (repeated_at [] 0 old ≡ None) × (new ≡ labels_sorted old) × IsStrictlySortedBy by_name new
Sorts old (Some i) new = repeated_at [] 0 old ≡ Some i

-- two labels have one name
abbrev pub same_name : Label → Label → Bool
same_name = eq_by_cmp by_name

-- where a label of this name stands
abbrev pub StandsAt : List Label → List ℕ → Option ℕ → Type 0
StandsAt ls name None = has_name ls name ≡ false
StandsAt ls name (Some at) = (at < length ls) × HoldsAt (λ (l : Label). bytes_eq l.name name ≡ true) ls at

-- the labels, with another name in place of this one
abbrev pub name_changed : List ℕ → List ℕ → List Label → List Label
name_changed from to ls = map (λ (l : Label). if bytes_eq l.name from then record { name = to; value = l.value } else l) ls
