-- Label sets as bytes that lie one behind the other (the bridge's own).
use Rattle.std.specs.Prelude.{ℕ, ◌≤◌, List, map, length, slice_range}
use Rattle.label_sets.specs.declared.label_set.LabelSet.{LabelSet}
use Rattle.packed_keys.specs.declared.packed_sets.Span.{Span}
use Rattle.packed_keys.specs.Packing.{labels_in}
use Rattle.packed_keys.specs.Texts.{IsPackedSet}

-- the bytes of a span
abbrev pub span_bytes : List ℕ → Span → List ℕ
span_bytes bytes s = slice_range bytes s.start s.end

-- the sets of spans
abbrev pub sets_of : List ℕ → List Span → List LabelSet
sets_of bytes spans = map (λ s. labels_in (span_bytes bytes s)) spans

-- a span lies within the bytes, and has those of a set
pub record IsSpan (bytes : List ℕ) (s : Span) : Type 0 where
  pub ordered : s.start ≤ s.end
  pub within : s.end ≤ length bytes
  pub packed : IsPackedSet (span_bytes bytes s)
