-- The exemplars of points, and pages as they are shown, by computation.
use Rattle.std.proofs.Common.{◌≡◌, ℕ, ◌^◌, false, true, List, [], ◌∷◌, Option, Some, None, codes, refl}
use Rattle.label_sets.specs.declared.kind.Kind.TheVariants as kinds
use Rattle.label_sets.specs.declared.label.Label.{Label}
use Rattle.exact_decimal.specs.Decimals.{decimal_cmp}
use Rattle.exact_decimal.specs.declared.number.Number.{Number}
use Rattle.exact_decimal.specs.declared.number.Number.TheVariants.{Finite, Up}
use Rattle.exact_decimal.specs.Order.{less, nanos, whole}
use Rattle.histogram_layout.specs.Layouts.{may_follow, are_cumulative, finite_part, layout_of}
use Rattle.page_model.specs.declared.item.Exemplar.{Exemplar}
use Rattle.page_model.specs.declared.page.Value.TheVariants as values
use Rattle.page_model.specs.declared.page.Family.{Family}
use Rattle.page_model.specs.declared.page.Page.{Page}
use Rattle.otlp_tree.specs.declared.tree.Shape.TheVariants as shapes
use Rattle.otlp_tree.specs.declared.tree.Shot.{Shot}
use Rattle.start_times.specs.Starts.{has_start, has_points, up_to, cumulative_layout}
use Rattle.family_metrics.specs.Scopes.{scope_name}
use Rattle.family_metrics.specs.Shots.{id_of, shot_of}
use Rattle.target_pages.specs.Thinned.{without_exemplars, shown_page}
use Rattle.family_metrics.specs.Points.{point_at, plain_number, histogram_in, number_point, histogram_point}
use Rattle.family_metrics.specs.Markers.{metric_with}
use Rattle.family_metrics.specs.Metrics.{shape_of, event_metrics}
use Rattle.target_core.specs.Events.{first_place}
use Rattle.target_core.proofs.CaseWords.{label, fraction, number, family}

-- ---- words of the cases

-- an exemplar of the value 2, and one without a time
abbrev exemplar_at : List Label → Option Number → Exemplar
exemplar_at labels stamp = record { labels = labels; value = number 2; stamp = stamp }

abbrev exemplar : List Label → Exemplar
exemplar labels = exemplar_at labels None

-- a shot of that value at the time of its point, which is 1000, and at another time
abbrev shot_then : ℕ → List Label → Option ℕ → Option ℕ → Shot
shot_then time attributes trace span = record { attributes = attributes; time = time; value = number 2; trace = trace; span = span }

abbrev shot : List Label → Option ℕ → Option ℕ → Shot
shot attributes trace span = shot_then 1000 attributes trace span

-- labels that may be ids
abbrev trace : List ℕ → Label
trace value = label (codes "trace_id") value

abbrev span : List ℕ → Label
span value = label (codes "span_id") value

-- a page of one family
abbrev page : Family → Page
page f = record { families = f ∷ []; samples = 1 }

-- the counter, with exemplars
abbrev counter : List Exemplar → Family
counter exemplars = family kinds.Counter (codes "c_total") (record {
  key = record { name = codes "c_total"; kind = kinds.Counter; unit = []; labels = [] };
  value = values.Plain (number 5);
  created = None;
  stamp = None;
  exemplars = exemplars;
} ∷ [])

-- a histogram of one bucket, with exemplars
abbrev histogram : List Exemplar → Family
histogram exemplars = family kinds.Histogram (codes "h") (record {
  key = record { name = codes "h"; kind = kinds.Histogram; unit = []; labels = [] };
  value = values.Buckets (record { le = Up; count = 1 } ∷ []) None;
  created = None;
  stamp = None;
  exemplars = exemplars;
} ∷ [])

-- ---- ids

-- digits of either case are a trace, and other labels are left
trace_of_digits : shot_of 1000 (exemplar (label (codes "q") (codes "z") ∷ trace (codes "0123456789abcdef0123456789ABCDEF") ∷ [])) ≡ shot (label (codes "q") (codes "z") ∷ []) (Some 0x0123456789abcdef0123456789abcdef) None
unfolding id_of shot_of nanos
trace_of_digits = refl

-- a trace and a span leave no label
trace_and_span : shot_of 1000 (exemplar (span (codes "00000000000000Ff") ∷ trace (codes "ffffffffffffffffffffffffffffffff") ∷ [])) ≡ shot [] (Some 0xffffffffffffffffffffffffffffffff) (Some 0xff)
unfolding id_of shot_of nanos
trace_and_span = refl

-- ids of zeros alone are labels
ids_of_zeros : shot_of 1000 (exemplar (span (codes "0000000000000000") ∷ trace (codes "00000000000000000000000000000000") ∷ [])) ≡ shot (span (codes "0000000000000000") ∷ trace (codes "00000000000000000000000000000000") ∷ []) None None
unfolding id_of shot_of nanos
ids_of_zeros = refl

-- so are those of fewer or more digits
ids_of_other_lengths : shot_of 1000 (exemplar (span (codes "11111111111111111") ∷ trace (codes "1111111111111111111111111111111") ∷ [])) ≡ shot (span (codes "11111111111111111") ∷ trace (codes "1111111111111111111111111111111") ∷ []) None None
unfolding id_of shot_of nanos
ids_of_other_lengths = refl

-- and those with another letter or a sign
ids_with_letters : shot_of 1000 (exemplar (span (codes "+111111111111111") ∷ trace (codes "1111111111111111111111111111111g") ∷ [])) ≡ shot (span (codes "+111111111111111") ∷ trace (codes "1111111111111111111111111111111g") ∷ []) None None
unfolding id_of shot_of nanos
ids_with_letters = refl

-- ---- times

-- a time in seconds
time_in_seconds : shot_of 1000 (exemplar_at [] (Some (fraction 15 1))) ≡ shot_then 1500000000 [] None None
unfolding id_of shot_of nanos
time_in_seconds = refl

-- a time past the latest counts as the latest
time_past_the_latest : shot_of 1000 (exemplar_at [] (Some (number 5000000000))) ≡ shot_then (2 ^ 62) [] None None
unfolding id_of shot_of nanos
time_past_the_latest = refl

-- one past all numbers is that of the point
time_past_all : shot_of 1000 (exemplar_at [] (Some (Finite (record { negative = false; digits = 1; up = 30; down = 0 })))) ≡ shot_then 1000 [] None None
unfolding id_of shot_of nanos
time_past_all = refl

-- and so is one below zero
time_below_zero : shot_of 1000 (exemplar_at [] (Some (Finite (record { negative = true; digits = 1; up = 0; down = 0 })))) ≡ shot_then 1000 [] None None
unfolding id_of shot_of nanos
time_below_zero = refl

-- ---- points

-- the exemplars of a reading in their order
bucket_exemplars : event_metrics (first_place false 1000) [] (page (histogram (exemplar (span (codes "7") ∷ []) ∷ exemplar [] ∷ [])))
    ≡ record {
      name = codes "h";
      description = codes "H";
      unit = [];
      shape = shapes.Histogram (record {
        labels = [];
        start = 1000;
        time = 1000;
        value = Some (record { layout = record { bounds = []; counts = 1 ∷ []; count = 1 }; sum = None });
        exemplars = shot (span (codes "7") ∷ []) None None ∷ shot [] None None ∷ [];
      } ∷ []);
    } ∷ []
unfolding has_start has_points up_to nanos whole less decimal_cmp may_follow are_cumulative finite_part layout_of first_place point_at scope_name id_of shot_of plain_number cumulative_layout histogram_in number_point histogram_point metric_with shape_of
bucket_exemplars = refl

-- ---- pages that are shown

-- exemplars are left out, and so are families without a reading
shown_without : shown_page (record { families = counter (exemplar [] ∷ []) ∷ family kinds.Gauge (codes "x") [] ∷ histogram [] ∷ []; samples = 2 })
    ≡ record { families = counter [] ∷ histogram [] ∷ []; samples = 2 }
unfolding without_exemplars
shown_without = refl
