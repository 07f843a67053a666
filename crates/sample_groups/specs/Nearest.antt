-- The group of the last part (the bridge's own).
use Rattle.std.specs.Prelude.{◌≡◌, List, Some, slice_get}
use Rattle.label_sets.specs.declared.label_set.LabelSet.{LabelSet}
use Rattle.sample_groups.specs.declared.group_table.CachedGroup.{CachedGroup}

-- its labels stand at its place
abbrev pub IsNearest : List LabelSet → CachedGroup → Type 0
IsNearest sets p = slice_get sets p.place ≡ Some p.labels
