-- Bytes that keys and label sets were packed into (the bridge's own).
-- Prometheus data model, "Metric names and labels": names and values are UTF-8.
use Rattle.std.specs.Prelude.{◌≡◌, ℕ, List, IsUtf8}
use Rattle.std.specs.List.{All}
use Rattle.label_sets.specs.declared.label.Label.{Label}
use Rattle.label_sets.specs.Sets.{IsLabelSet}
use Rattle.packed_keys.specs.declared.sample_key.SampleKey.{SampleKey}
use Rattle.packed_keys.specs.Packing.{labels_bytes, labels_in, key_bytes, key_at}

-- name and value are texts
pub record IsTextLabel (l : Label) : Type 0 where
  pub name : IsUtf8 l.name
  pub value : IsUtf8 l.value

-- a label set of texts
pub record IsTextSet (ls : List Label) : Type 0 where
  pub texts : All IsTextLabel ls
  pub set : IsLabelSet ls

-- a key of texts
pub record IsTextKey (key : SampleKey) : Type 0 where
  pub name : IsUtf8 key.name
  pub labels : IsTextSet key.labels

-- the bytes of a label set
pub record IsPackedSet (bytes : List ℕ) : Type 0 where
  pub packed : labels_bytes (labels_in bytes) ≡ bytes
  pub text : IsTextSet (labels_in bytes)

-- the bytes of a key
pub record IsPackedKey (bytes : List ℕ) : Type 0 where
  pub packed : key_bytes (key_at bytes) ≡ bytes
  pub text : IsTextKey (key_at bytes)
