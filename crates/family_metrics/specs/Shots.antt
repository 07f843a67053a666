-- The exemplars of a point.
-- OpenTelemetry metrics data model, "Exemplars"; "Prometheus and OpenMetrics Compatibility", "Exemplars" (trace_id, span_id); W3C Trace Context,
-- "trace-id" and "parent-id" (digits that are not all 0). That a time past the latest counts as the latest is the bridge's own.
use Rattle.std.specs.Prelude.{ℕ, Bool, not, ◌&&◌, ◌||◌, ◌==◌, List, filter, length, codes, min, Option, is_some}
use Rattle.std.specs.List.{list_all}
use Rattle.std.specs.Option.{option_map_or}
use Rattle.std.specs.Char.{is_ascii_hexdigit}
use Rattle.std.specs.Str.{bytes_eq}
use Rattle.std.specs.Str.Parse.{digits_value}
use Rattle.label_sets.specs.declared.label.Label.{Label}
use Rattle.label_sets.specs.declared.label_set.LabelSet.{LabelSet}
use Rattle.label_sets.specs.Lists.{◌>>=◌, when_true}
use Rattle.label_sets.specs.Labels.{label_value}
use Rattle.exact_decimal.specs.declared.number.Number.{Number}
use Rattle.exact_decimal.specs.Order.{nanos}
use Rattle.page_model.specs.declared.item.Exemplar.{Exemplar}
use Rattle.page_model.specs.Readings.{latest_time}
use Rattle.otlp_tree.specs.declared.tree.Shot.{Shot}

-- the number of a text of so many hexadecimal digits that are not all 0
unfoldable pub id_of : ℕ → List ℕ → Option ℕ
id_of places text = when_true (length text == places && list_all is_ascii_hexdigit text && not (digits_value 16 text == 0)) (digits_value 16 text)

-- the label is the id of a trace or of a span
abbrev pub is_id : Label → Bool
is_id l = (bytes_eq l.name (codes "trace_id") && is_some (id_of 32 l.value)) || (bytes_eq l.name (codes "span_id") && is_some (id_of 16 l.value))

-- the trace that labels name
abbrev pub trace_in : LabelSet → Option ℕ
trace_in labels = label_value (codes "trace_id") labels >>= id_of 32

-- the span that labels name
abbrev pub span_in : LabelSet → Option ℕ
span_in labels = label_value (codes "span_id") labels >>= id_of 16

-- the time of an exemplar in a point at a time: its own, where it has one that can be told
abbrev pub shot_time : ℕ → Option Number → ℕ
shot_time time stamp = option_map_or (λ n. min n latest_time) (stamp >>= nanos) time

-- the shot of an exemplar, in a point at a time
unfoldable pub shot_of : ℕ → Exemplar → Shot
shot_of time e = record {
  attributes = filter (λ l. not (is_id l)) e.labels;
  time = shot_time time e.stamp;
  value = e.value;
  trace = trace_in e.labels;
  span = span_in e.labels;
}
