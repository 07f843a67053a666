-- A key as bytes: the length of each part stands before it, so that no two keys have the same bytes (the bridge's own).
use Rattle.std.specs.Prelude.{ℕ, zero, suc, ◌+◌, ◌/◌, ◌%◌, ◌==◌, Bool, List, [], ◌∷◌, ◌++◌, length, take, drop, replicate, ◌&&◌, if◌then◌else◌}
use Rattle.std.specs.List.{flat_map, list_any}
use Rattle.std.specs.Str.{bytes_eq}
use Rattle.label_sets.specs.declared.label.Label.{Label}
use Rattle.label_sets.specs.declared.series_key.SeriesKey.{SeriesKey}
use Rattle.label_sets.specs.Keys.{kind_place}
use Rattle.label_sets.specs.Labels.{label_sets_eq}
use Rattle.packed_keys.specs.declared.sample_key.SampleKey.{SampleKey}

-- two samples have one name and one label set
abbrev pub sample_key_eq : SampleKey → SampleKey → Bool
sample_key_eq a b = bytes_eq a.name b.name && label_sets_eq a.labels b.labels

-- sets with one more, unless it is among them
abbrev pub with_set : List (List Label) → List Label → List (List Label)
with_set sets set = if list_any (label_sets_eq set) sets then sets else sets ++ set ∷ []

-- ---- packing

-- a length: 255 as often as it goes in, then what is left
unfoldable pub length_code : ℕ → List ℕ
length_code n = replicate (n / 255) 255 ++ (n % 255) ∷ []

-- a part behind its length
unfoldable pub part_bytes : List ℕ → List ℕ
part_bytes bytes = length_code (length bytes) ++ bytes

-- a label: its name, then its value
unfoldable pub label_bytes : Label → List ℕ
label_bytes l = part_bytes l.name ++ part_bytes l.value

-- labels, behind their number
unfoldable pub labels_bytes : List Label → List ℕ
labels_bytes ls = length_code (length ls) ++ flat_map label_bytes ls

-- a key: its name, then its labels
unfoldable pub key_bytes : SampleKey → List ℕ
key_bytes key = part_bytes key.name ++ labels_bytes key.labels

-- the key of a series: its kind, its name, its unit, then its labels
unfoldable pub series_bytes : SeriesKey → List ℕ
series_bytes key = kind_place key.kind ∷ (part_bytes key.name ++ (part_bytes key.unit ++ labels_bytes key.labels))

-- ---- reading back

-- the length at the front, and what stands behind it
unfoldable pub length_at : List ℕ → ℕ × List ℕ
length_at [] = (0, [])
length_at (b ∷ bs) = if b == 255 then (255 + (length_at bs).0, (length_at bs).1) else (b, bs)

-- the part at the front, and what stands behind it
unfoldable pub part_at : List ℕ → List ℕ × List ℕ
part_at bs = (take (length_at bs).0 (length_at bs).1, drop (length_at bs).0 (length_at bs).1)

-- the label at the front, and what stands behind it
unfoldable pub packed_label_at : List ℕ → Label × List ℕ
packed_label_at bs = (record { name = (part_at bs).0; value = (part_at (part_at bs).1).0 }, (part_at (part_at bs).1).1)

-- so many labels from the front on
unfoldable pub packed_labels_at : ℕ → List ℕ → List Label
packed_labels_at zero bs = []
packed_labels_at (suc more) bs = (packed_label_at bs).0 ∷ packed_labels_at more (packed_label_at bs).1

-- the labels that bytes are
unfoldable pub labels_in : List ℕ → List Label
labels_in bs = packed_labels_at (length_at bs).0 (length_at bs).1

-- the key that bytes are
unfoldable pub key_at : List ℕ → SampleKey
key_at bs = record { name = (part_at bs).0; labels = labels_in (part_at bs).1 }
