-- Where the labels of groups lie (the bridge's own).
use Rattle.std.specs.Prelude.{List}
use Rattle.label_sets.specs.declared.label_set.LabelSet.{LabelSet}
use Rattle.sample_groups.specs.declared.group_labels.Held.{Held}
use Rattle.sample_groups.specs.declared.group_labels.Held.TheVariants as held

-- the sets, as they lie
abbrev pub labels_held : Held → List LabelSet
labels_held (held.Shared sets) = sets.items
labels_held (held.Packed sets) = sets
labels_held (held.Seen sets) = sets
