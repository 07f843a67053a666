-- What tells of a group of the current family that it is new, without a look at the groups (the bridge's own).
use Rattle.std.specs.Prelude.{◌≡◌, ⊤, ℕ, Bool, true, false, List, Option, Some, None}
use Rattle.std.specs.Str.{bytes_eq}
use Rattle.label_sets.specs.declared.label_set.LabelSet.{LabelSet}
use Rattle.packed_keys.specs.declared.sample_key.SampleKey.{SampleKey}
use Rattle.sample_groups.specs.Groups.{known_group}
use Rattle.family_rules.specs.declared.group_keys.GroupKeys.{GroupKeys}
use Rattle.family_rules.specs.declared.group_keys.GroupKeys.TheVariants as told
use Rattle.family_rules.specs.declared.family.Current.{Current}
use Rattle.family_rules.specs.declared.timed_values.TimedValue.{TimedValue}
use Rattle.family_rules.specs.GroupRuns.{group_key}
use Rattle.family_rules.specs.KeyedValues.{is_key_of}

-- the current family has no group with these labels
abbrev pub IsNewGroup : Option Current → LabelSet → Type 0
IsNewGroup None labels = ⊤
IsNewGroup (Some k) labels = known_group k.family.groups labels ≡ None

-- labels are those of no group where no sample has this name and these labels
abbrev pub NameTells : List ℕ → Option Current → List (SampleKey × TimedValue) → Type 0
NameTells name current seen = (labels : LabelSet) → is_key_of (group_key name labels) seen ≡ false → IsNewGroup current labels

-- the keys of this name tell which groups are new
abbrev pub tells : GroupKeys → List ℕ → Bool
tells told.NoGroups name = true
tells (told.Of first) name = bytes_eq first name
tells told.Unknown name = false

-- what the keys tell is so
abbrev pub TellTrue : GroupKeys → Option Current → List (SampleKey × TimedValue) → Type 0
TellTrue keys current seen = (name : List ℕ) → tells keys name ≡ true → NameTells name current seen
