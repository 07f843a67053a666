-- The labels of the key that was seen last (the bridge's own).
use Rattle.std.specs.Prelude.{◌≡◌, ◌-◌, List, Some, length, slice_get, option_map}
use Rattle.label_sets.specs.declared.label_set.LabelSet.{LabelSet}
use Rattle.packed_keys.specs.declared.sample_key.SampleKey.{SampleKey}

-- the last key has these labels
abbrev pub EndsWith : List SampleKey → LabelSet → Type 0
EndsWith keys labels = option_map (λ (k : SampleKey). k.labels) (slice_get keys (length keys - 1)) ≡ Some labels
