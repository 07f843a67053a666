-- The groups of a family (the bridge's own).
use Rattle.std.specs.Prelude.{List, [], ◌∷◌}
use Rattle.label_sets.specs.declared.label_set.LabelSet.{LabelSet}
use Rattle.sample_groups.specs.Groups.{Gathered}
use Rattle.sample_groups.specs.declared.groups.OnlyGroup.{OnlyGroup}
use Rattle.sample_groups.specs.declared.groups.Store.{Store}
use Rattle.sample_groups.specs.declared.groups.Store.TheVariants.{Nothing, One, Many}

-- a family's only group
abbrev pub only_in : OnlyGroup → List (LabelSet × Gathered)
only_in only = (only.labels, only.group) ∷ []

-- the groups, wherever they lie
abbrev pub groups_in : Store → List (LabelSet × Gathered)
groups_in Nothing = []
groups_in (One only) = only_in only.value
groups_in (Many table) = table.value
