-- The scopes that series name by their labels, and the labels that are left to their points.
-- "Prometheus and OpenMetrics Compatibility", "Instrumentation Scope" (otel_scope_name, otel_scope_version).
-- That the bridge's own two scopes can't be named by labels is the bridge's own.
use Rattle.std.specs.Prelude.{ℕ, Bool, not, ◌&&◌, ◌||◌, List, [], codes, Option, Some, None, is_some, unwrap_or, if◌then◌else◌}
use Rattle.std.specs.Str.{bytes_eq}
use Rattle.label_sets.specs.declared.label_set.LabelSet.{LabelSet}
use Rattle.label_sets.specs.Lists.{◌>>=◌, when_true}
use Rattle.label_sets.specs.Labels.{label_value, without_label}

-- a scope: its name, and its version, or nothing
pub record Scope : Type 0 where
  pub name : List ℕ
  pub version : List ℕ

-- two scopes are one
abbrev pub scope_eq : Scope → Scope → Bool
scope_eq a b = bytes_eq a.name b.name && bytes_eq a.version b.version

-- the scope of series that name none
abbrev pub bridge_scope : Scope
bridge_scope = record { name = codes "bridge"; version = [] }

-- the scope of what is said of a scrape
abbrev pub target_scope : Scope
target_scope = record { name = codes "bridge.target"; version = [] }

-- a name of one of the bridge's own scopes
abbrev pub is_own_scope : List ℕ → Bool
is_own_scope name = bytes_eq name (codes "bridge") || bytes_eq name (codes "bridge.target")

-- the name of a scope that labels give, where they give one and it isn't of the bridge's own
unfoldable pub scope_name : LabelSet → Option (List ℕ)
scope_name labels = label_value (codes "otel_scope_name") labels >>= λ name. when_true (not (is_own_scope name)) name

-- the version that labels give, or nothing
abbrev pub scope_version : LabelSet → List ℕ
scope_version labels = unwrap_or (label_value (codes "otel_scope_version") labels) []

-- the scope of a series with these labels
abbrev pub scope_of : LabelSet → Scope
scope_of labels = of (scope_name labels)
  where
    of : Option (List ℕ) → Scope
    of None = bridge_scope
    of (Some name) = record { name = name; version = scope_version labels }

-- the labels of the points of such a series: without those that name its scope
abbrev pub point_labels : LabelSet → LabelSet
point_labels labels = if is_some (scope_name labels) then without_label (codes "otel_scope_version") (without_label (codes "otel_scope_name") labels) else labels
