-- What a series is known by: its name, kind, unit and labels.
-- OpenTelemetry metrics data model, "Timeseries Model" (identity of a stream and its attributes).
use Rattle.std.specs.Prelude.{ℕ, Bool, ◌&&◌, ◌==◌}
use Rattle.std.specs.Str.{bytes_eq}
use Rattle.std.specs.Cmp.Lexicographic.{slice_cmp}
use Rattle.std.specs.Ordering.{nat_cmp, ordering_then}
use Rattle.std.specs.declared.cmp.Ordering.{Ordering}
use Rattle.label_sets.specs.declared.kind.Kind.{Kind}
use Rattle.label_sets.specs.declared.kind.Kind.TheVariants.{Counter, Gauge, Histogram, GaugeHistogram, StateSet, Info, Summary, Unknown}
use Rattle.label_sets.specs.declared.label.Label.{Label}
use Rattle.label_sets.specs.declared.series_key.SeriesKey.{SeriesKey}
use Rattle.label_sets.specs.Labels.{label_sets_eq}

-- the place of a kind in the order of the enum
abbrev pub kind_place : Kind → ℕ
kind_place Counter = 0
kind_place Gauge = 1
kind_place Histogram = 2
kind_place GaugeHistogram = 3
kind_place StateSet = 4
kind_place Info = 5
kind_place Summary = 6
kind_place Unknown = 7

-- one kind
abbrev pub kind_eq : Kind → Kind → Bool
kind_eq a b = kind_place a == kind_place b

-- one series
abbrev pub key_eq : SeriesKey → SeriesKey → Bool
key_eq a b = bytes_eq a.name b.name && kind_eq a.kind b.kind && bytes_eq a.unit b.unit && label_sets_eq a.labels b.labels

-- one metric: name, kind and unit without the labels
abbrev pub identity_eq : SeriesKey → SeriesKey → Bool
identity_eq a b = bytes_eq a.name b.name && kind_eq a.kind b.kind && bytes_eq a.unit b.unit

-- the order of labels: by name, then value
abbrev pub label_cmp : Label → Label → Ordering
label_cmp a b = ordering_then (slice_cmp nat_cmp a.name b.name) (slice_cmp nat_cmp a.value b.value)

-- the order of keys: by name, then kind, then unit, then the list of labels
abbrev pub key_cmp : SeriesKey → SeriesKey → Ordering
key_cmp a b = ordering_then (slice_cmp nat_cmp a.name b.name)
    (ordering_then (nat_cmp (kind_place a.kind) (kind_place b.kind))
    (ordering_then (slice_cmp nat_cmp a.unit b.unit)
    (slice_cmp label_cmp a.labels b.labels)))
