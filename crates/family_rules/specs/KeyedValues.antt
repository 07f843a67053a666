-- The samples of a page as keys and values with their times, the keys beside their packed form where a page will be made (the bridge's own).
use Rattle.std.specs.Prelude.{◌≡◌, ◌<◌, ◌≤◌, ◌-◌, ◌&&◌, ◌||◌, ⊤, ℕ, Bool, false, not, List, [], ◌∷◌, Option, Some, None, drop, length, vec_len, vec_capacity}
use Rattle.std.specs.List.{list_any}
use Rattle.std.specs.declared.vec.Vec.{Vec}
use Rattle.std.specs.declared.alloc.Global.{Global}
use Rattle.std.specs.Vec.Iter.{into_iter_items}
use Rattle.exact_decimal.specs.declared.number.Number.{Number}
use Rattle.label_sets.specs.declared.label_set.LabelSet.{LabelSet}
use Rattle.label_sets.specs.Labels.{label_sets_eq}
use Rattle.packed_keys.specs.declared.sample_key.SampleKey.{SampleKey}
use Rattle.packed_keys.specs.Packing.{sample_key_eq}
use Rattle.family_rules.specs.declared.keyed_values.KeySource.{KeySource}
use Rattle.family_rules.specs.declared.keyed_values.KeySource.TheVariants.{Kept, Packed}
use Rattle.family_rules.specs.declared.timed_values.TimedValue.{TimedValue}

-- one of the samples has this key
abbrev pub is_key_of : SampleKey → List (SampleKey × TimedValue) → Bool
is_key_of key samples = list_any (λ (e : SampleKey × TimedValue). sample_key_eq key e.0) samples

-- so many samples at the end
abbrev pub samples_at_end : ℕ → List (SampleKey × TimedValue) → List (SampleKey × TimedValue)
samples_at_end count samples = drop (length samples - count) samples

-- behind samples of which one had these labels or none, and the last one had them or not: one has them, and the last one has not
abbrev pub passed_from : LabelSet → Bool → Bool → List (SampleKey × TimedValue) → Bool
passed_from labels any last [] = any && not last
passed_from labels any last (e ∷ samples) = passed_from labels (any || label_sets_eq e.0.labels labels) (label_sets_eq e.0.labels labels) samples

-- one of the samples has these labels, and the last one has not
abbrev pub is_passed : LabelSet → List (SampleKey × TimedValue) → Bool
is_passed labels samples = passed_from labels false false samples

-- where keys are kept, they are these
abbrev pub AreKept : Option (Vec SampleKey Global) → List SampleKey → Type 0
AreKept None keys = ⊤
AreKept (Some kept) keys = kept.items ≡ keys

-- where keys are kept, there is room for one more
abbrev pub HasRoomForKey : Option (Vec SampleKey Global) → Type 0
HasRoomForKey None = ⊤
HasRoomForKey (Some kept) = vec_len kept < vec_capacity kept

-- there is a value for each key and a time for some at the end, and where keys are kept, they are these
pub record AreKeyed (kept : Option (Vec SampleKey Global)) (keys : List SampleKey) (values : List Number) (times : List (Option ℕ)) : Type 0 where
  pub each : length values ≡ length keys
  pub few : length times ≤ length values
  pub kept_are : AreKept kept keys

-- the keys that are still to come, wherever they come from
abbrev pub keys_to_come : KeySource → List SampleKey
keys_to_come (Kept keys) = into_iter_items keys
keys_to_come (Packed keys) = keys
