-- Where the keys of series stand in a list (the bridge's own).
use Rattle.std.specs.Prelude.{◌≡◌, ℕ, Bool, false, List, map, Option, Some, IfSome, is_some, slice_get}
use Rattle.std.specs.List.{IsDistinct, list_any}
use Rattle.std.specs.Str.{bytes_eq}
use Rattle.label_sets.specs.declared.series_key.SeriesKey.{SeriesKey}
use Rattle.label_sets.specs.declared.kind.Kind.{Kind}
use Rattle.label_sets.specs.Keys.{kind_eq, key_eq}
use Rattle.packed_keys.specs.Packing.{series_bytes}

-- the answer to where a key stands: somewhere just where the list has it, and at that place where no key stands twice
pub record IsPlace (keys : List SeriesKey) (key : SeriesKey) (found : Option ℕ) : Type 0 where
  pub there : is_some found ≡ list_any (key_eq key) keys
  pub place : IsDistinct key_eq keys → IfSome found (λ at. slice_get keys at ≡ Some key)

-- these strings are the bytes of the keys of a list, each once
pub record AreBytesOf (keys : List SeriesKey) (strings : List (List ℕ)) : Type 0 where
  pub there : (key : SeriesKey) → list_any (bytes_eq (series_bytes key)) strings ≡ list_any (key_eq key) keys
  pub once : IsDistinct key_eq keys → strings ≡ map series_bytes keys

-- a key is of this kind
abbrev pub is_of_kind : Kind → SeriesKey → Bool
is_of_kind kind key = kind_eq kind key.kind

-- no key is of this kind
abbrev pub AreNotOfKind : List SeriesKey → Kind → Type 0
AreNotOfKind keys kind = list_any (is_of_kind kind) keys ≡ false
