-- What every label set is.
-- Prometheus data model, "Metric names and labels"; OpenMetrics 1.0, "Labels" and "LabelSet".
use Rattle.std.specs.Prelude.{◌≢◌, List, []}
use Rattle.std.specs.List.{All}
use Rattle.std.specs.List.Sorted.{IsStrictlySortedBy}
use Rattle.std.specs.Cmp.Lexicographic.{slice_cmp}
use Rattle.std.specs.Ordering.{nat_cmp}
use Rattle.std.specs.declared.cmp.Ordering.{Ordering}
use Rattle.label_sets.specs.declared.label.Label.{Label}

-- the order of labels by the bytes of their names
abbrev pub by_name : Label → Label → Ordering
by_name a b = slice_cmp nat_cmp a.name b.name

-- the names ascend in byte order, so that no two are the same, and no value is empty
pub record IsLabelSet (ls : List Label) : Type 0 where
  pub ascending : IsStrictlySortedBy by_name ls
  pub valued : All (λ (l : Label). l.value ≢ []) ls
