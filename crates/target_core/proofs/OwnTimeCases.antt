-- The points of histories whose pages have times of their own, by computation. Times of the page are in nanoseconds here.
use Rattle.std.proofs.Common.{◌≡◌, ℕ, Bool, true, false, cond, List, [], ◌∷◌, map, length, Option, Some, None, codes, reverse, refl}
use Rattle.std.specs.List.{flat_map}
use Rattle.std.specs.Str.{bytes_eq}
use Rattle.label_sets.specs.declared.kind.Kind.TheVariants as kinds
use Rattle.exact_decimal.specs.Decimals.{decimal_cmp}
use Rattle.exact_decimal.specs.Order.{less, nanos, whole}
use Rattle.page_model.specs.declared.page.Reading.{Reading}
use Rattle.page_model.specs.declared.event.Event.{Event}
use Rattle.otlp_tree.specs.declared.tree.Request.{Request}
use Rattle.otlp_tree.specs.declared.tree.ResourceMetrics.{ResourceMetrics}
use Rattle.otlp_tree.specs.declared.tree.ScopeMetrics.{ScopeMetrics}
use Rattle.otlp_tree.specs.declared.tree.Metric.{Metric}
use Rattle.otlp_tree.specs.declared.tree.Shape.TheVariants as shapes
use Rattle.otlp_tree.specs.declared.tree.NumberPoint.{NumberPoint}
use Rattle.start_times.specs.Scrapes.{scrape_after}
use Rattle.start_times.specs.Starts.{has_points, has_start, up_to, last_of, falls, differs, start_time, placed, reading_place}
use Rattle.family_metrics.specs.Scopes.{scope_name}
use Rattle.target_pages.specs.Stretches.{is_info, without_info, attributes_in, stretch_scrape}
use Rattle.target_core.proofs.CaseWords as words
use Rattle.target_core.proofs.CaseWords.{target, label, number, reading, family, scrape, nothing, failed, told_scope}
use Rattle.family_metrics.specs.Points.{point_at, plain_number, number_point}
use Rattle.family_metrics.specs.Markers.{number_marker, metric_with, marker_metric, no_points}
use Rattle.family_metrics.specs.Metrics.{shape_of}
use Rattle.target_core.specs.Trees.{target_metrics, resource_of, request_of}
use Rattle.scope_metrics.specs.PageScopes.{series_scopes}
use Rattle.target_core.specs.Events.{marker_with, request_after, requests_of}

-- ---- words of the cases

-- one of the counter `c`
abbrev c : Option ℕ → ℕ → Reading
c own value = reading kinds.Counter (codes "c") [] None own value

-- one of the gauge `x` with this label
abbrev x_of : List ℕ → Option ℕ → ℕ → Reading
x_of value own n = reading kinds.Gauge (codes "x") (label (codes "a") value ∷ []) None own n

-- a scrape of one family of counters, of gauges
abbrev counters : ℕ → List Reading → Event
counters at rs = scrape at (length rs) (family kinds.Counter (codes "c") rs ∷ [])

abbrev gauges : ℕ → List Reading → Event
gauges at rs = scrape at (length rs) (family kinds.Gauge (codes "x") rs ∷ [])

-- the metrics of pages and of markers in a tree
abbrev own_metrics : Request → List Metric
own_metrics r = flat_map (λ (p : ResourceMetrics). flat_map (λ (s : ScopeMetrics). cond (bytes_eq s.name (codes "bridge")) s.metrics []) p.scopes) r.parts

-- those of these events in their order
abbrev told : ℕ → Bool → List Event → List (List Metric)
told keep honor events = map own_metrics (reverse (requests_of (target honor) (record { keep = keep; honor = honor }) (reverse events)))

-- points and points without a value, with no label or with this one
abbrev point : Option ℕ → ℕ → ℕ → NumberPoint
point start time value = words.labelled [] start time value

abbrev gone : Option ℕ → ℕ → NumberPoint
gone start time = words.gone_labelled [] start time

abbrev labelled : List ℕ → ℕ → ℕ → NumberPoint
labelled value time n = words.labelled (label (codes "a") value ∷ []) None time n

abbrev gone_labelled : List ℕ → ℕ → NumberPoint
gone_labelled value time = words.gone_labelled (label (codes "a") value ∷ []) None time

-- the metric of the counter, of the gauge, and of markers alone
abbrev sum : List ℕ → List NumberPoint → List Metric
sum help points = record { name = codes "c"; description = help; unit = []; shape = shapes.Sum points true } ∷ []

abbrev gauge : List ℕ → List NumberPoint → List Metric
gauge help points = record { name = codes "x"; description = help; unit = []; shape = shapes.Gauge points } ∷ []

-- ---- counters

-- a counter with times of its own: the second reading is late, and where it is gone there is no marker
own_times : told 2 true (counters 10 (c (Some 2000) 5 ∷ []) ∷ counters 20 (c (Some 2000) 6 ∷ []) ∷ counters 30 (c (Some 3000) 7 ∷ []) ∷ nothing 40 ∷ []) ≡ sum (codes "H") (point (Some 2000) 2000 5 ∷ []) ∷ [] ∷ sum (codes "H") (point (Some 2000) 3000 7 ∷ []) ∷ [] ∷ []
unfolding request_after scrape_after without_info attributes_in is_info stretch_scrape series_scopes request_of reading_place placed start_time differs falls last_of has_points has_start up_to nanos whole less decimal_cmp point_at scope_name plain_number number_point number_marker metric_with marker_with marker_metric no_points shape_of target_metrics
own_times = refl

-- the same where times of the page don't count
times_not_honored : told 2 false (counters 10 (c (Some 2000) 5 ∷ []) ∷ counters 20 (c (Some 2000) 6 ∷ []) ∷ counters 30 (c (Some 3000) 7 ∷ []) ∷ nothing 40 ∷ []) ≡ sum (codes "H") (point (Some 10) 10 5 ∷ []) ∷ sum (codes "H") (point (Some 10) 20 6 ∷ []) ∷ sum (codes "H") (point (Some 10) 30 7 ∷ []) ∷ sum [] (gone (Some 10) 40 ∷ []) ∷ []
unfolding request_after scrape_after without_info attributes_in is_info stretch_scrape series_scopes request_of reading_place placed start_time differs falls last_of has_points has_start up_to nanos whole less decimal_cmp point_at scope_name plain_number number_point number_marker metric_with marker_with marker_metric no_points shape_of target_metrics
times_not_honored = refl

-- a time ahead of the clock makes readings without one late, and the marker has no start after itself
ahead_then_none : told 2 true (counters 10 (c (Some 2000) 5 ∷ []) ∷ counters 20 (c None 6 ∷ []) ∷ nothing 30 ∷ []) ≡ sum (codes "H") (point (Some 2000) 2000 5 ∷ []) ∷ [] ∷ sum [] (gone (Some 30) 30 ∷ []) ∷ []
unfolding request_after scrape_after without_info attributes_in is_info stretch_scrape series_scopes request_of reading_place placed start_time differs falls last_of has_points has_start up_to nanos whole less decimal_cmp point_at scope_name plain_number number_point number_marker metric_with marker_with marker_metric no_points shape_of target_metrics
ahead_then_none = refl

-- the marker has the start of the reading that was last taken
marker_of_taken : told 2 true (counters 10 (c None 5 ∷ []) ∷ counters 20 (c (Some 100) 6 ∷ []) ∷ counters 200 (c None 7 ∷ []) ∷ failed 201 ∷ []) ≡ sum (codes "H") (point (Some 10) 10 5 ∷ []) ∷ sum (codes "H") (point (Some 10) 100 6 ∷ []) ∷ sum (codes "H") (point (Some 10) 200 7 ∷ []) ∷ sum [] (gone (Some 10) 201 ∷ []) ∷ []
unfolding request_after scrape_after without_info attributes_in is_info stretch_scrape series_scopes request_of reading_place placed start_time differs falls last_of has_points has_start up_to nanos whole less decimal_cmp point_at scope_name plain_number number_point number_marker metric_with marker_with marker_metric no_points shape_of target_metrics
marker_of_taken = refl

-- a fall at a late reading is no reset, and values are held against the reading last taken
late_fall : told 2 true (counters 10 (c (Some 2000) 5 ∷ []) ∷ counters 20 (c (Some 2000) 1 ∷ []) ∷ counters 30 (c (Some 3000) 6 ∷ []) ∷ counters 40 (c (Some 4000) 4 ∷ []) ∷ []) ≡ sum (codes "H") (point (Some 2000) 2000 5 ∷ []) ∷ [] ∷ sum (codes "H") (point (Some 2000) 3000 6 ∷ []) ∷ sum (codes "H") (point (Some 4000) 4000 4 ∷ []) ∷ []
unfolding request_after scrape_after without_info attributes_in is_info stretch_scrape series_scopes request_of reading_place placed start_time differs falls last_of has_points has_start up_to nanos whole less decimal_cmp point_at scope_name plain_number number_point number_marker metric_with marker_with marker_metric no_points shape_of target_metrics
late_fall = refl

-- nor is the value of a late reading held against the next one
late_value_forgotten : told 2 true (counters 10 (c (Some 2000) 5 ∷ []) ∷ counters 20 (c (Some 2000) 9 ∷ []) ∷ counters 30 (c (Some 3000) 6 ∷ []) ∷ []) ≡ sum (codes "H") (point (Some 2000) 2000 5 ∷ []) ∷ [] ∷ sum (codes "H") (point (Some 2000) 3000 6 ∷ []) ∷ []
unfolding request_after scrape_after without_info attributes_in is_info stretch_scrape series_scopes request_of reading_place placed start_time differs falls last_of has_points has_start up_to nanos whole less decimal_cmp point_at scope_name plain_number number_point number_marker metric_with marker_with marker_metric no_points shape_of target_metrics
late_value_forgotten = refl

-- a late reading makes the row young again
late_keeps_row : told 1 true (counters 10 (c (Some 2000) 5 ∷ []) ∷ nothing 20 ∷ counters 30 (c (Some 2000) 6 ∷ []) ∷ nothing 40 ∷ counters 50 (c (Some 3000) 7 ∷ []) ∷ []) ≡ sum (codes "H") (point (Some 2000) 2000 5 ∷ []) ∷ [] ∷ [] ∷ [] ∷ sum (codes "H") (point (Some 2000) 3000 7 ∷ []) ∷ []
unfolding request_after scrape_after without_info attributes_in is_info stretch_scrape series_scopes request_of reading_place placed start_time differs falls last_of has_points has_start up_to nanos whole less decimal_cmp point_at scope_name plain_number number_point number_marker metric_with marker_with marker_metric no_points shape_of target_metrics
late_keeps_row = refl

-- without it the start is lost
row_ends : told 1 true (counters 10 (c (Some 2000) 5 ∷ []) ∷ nothing 20 ∷ nothing 30 ∷ counters 40 (c (Some 3000) 7 ∷ []) ∷ []) ≡ sum (codes "H") (point (Some 2000) 2000 5 ∷ []) ∷ [] ∷ [] ∷ sum (codes "H") (point (Some 3000) 3000 7 ∷ []) ∷ []
unfolding request_after scrape_after without_info attributes_in is_info stretch_scrape series_scopes request_of reading_place placed start_time differs falls last_of has_points has_start up_to nanos whole less decimal_cmp point_at scope_name plain_number number_point number_marker metric_with marker_with marker_metric no_points shape_of target_metrics
row_ends = refl

-- a series whose row ended is taken at any time
taken_after_end : told 0 true (counters 10 (c (Some 9000) 5 ∷ []) ∷ failed 20 ∷ counters 30 (c (Some 2000) 6 ∷ []) ∷ []) ≡ sum (codes "H") (point (Some 9000) 9000 5 ∷ []) ∷ [] ∷ sum (codes "H") (point (Some 2000) 2000 6 ∷ []) ∷ []
unfolding request_after scrape_after without_info attributes_in is_info stretch_scrape series_scopes request_of reading_place placed start_time differs falls last_of has_points has_start up_to nanos whole less decimal_cmp point_at scope_name plain_number number_point number_marker metric_with marker_with marker_metric no_points shape_of target_metrics
taken_after_end = refl

-- a created time counts up to the own time
created_own_time : told 2 true (counters 10 (reading kinds.Counter (codes "c") [] (Some (number 1)) (Some 2000000000) 5 ∷ []) ∷ counters 20 (reading kinds.Counter (codes "c") [] (Some (number 2)) (Some 2500000000) 6 ∷ []) ∷ counters 30 (reading kinds.Counter (codes "c") [] (Some (number 4)) (Some 3000000000) 7 ∷ []) ∷ []) ≡ sum (codes "H") (point (Some 1000000000) 2000000000 5 ∷ []) ∷ sum (codes "H") (point (Some 2000000000) 2500000000 6 ∷ []) ∷ sum (codes "H") (point (Some 3000000000) 3000000000 7 ∷ []) ∷ []
unfolding request_after scrape_after without_info attributes_in is_info stretch_scrape series_scopes request_of reading_place placed start_time differs falls last_of has_points has_start up_to nanos whole less decimal_cmp point_at scope_name plain_number number_point number_marker metric_with marker_with marker_metric no_points shape_of target_metrics
created_own_time = refl

-- ---- gauges

-- a gauge with a time that stands still, goes back and goes on
gauge_times : told 2 true (gauges 10 (x_of (codes "1") (Some 50) 1 ∷ []) ∷ gauges 20 (x_of (codes "1") (Some 50) 2 ∷ []) ∷ gauges 30 (x_of (codes "1") (Some 40) 3 ∷ []) ∷ gauges 40 (x_of (codes "1") (Some 60) 4 ∷ []) ∷ []) ≡ gauge (codes "H") (labelled (codes "1") 50 1 ∷ []) ∷ [] ∷ [] ∷ gauge (codes "H") (labelled (codes "1") 60 4 ∷ []) ∷ []
unfolding request_after scrape_after without_info attributes_in is_info stretch_scrape series_scopes request_of reading_place placed start_time differs falls last_of has_points has_start up_to nanos whole less decimal_cmp point_at scope_name plain_number number_point number_marker metric_with marker_with marker_metric no_points shape_of target_metrics
gauge_times = refl

-- a late reading does not lower the time that the next one must pass
late_lowers_nothing : told 2 true (gauges 10 (x_of (codes "1") (Some 30) 5 ∷ []) ∷ gauges 20 (x_of (codes "1") (Some 20) 6 ∷ []) ∷ gauges 30 (x_of (codes "1") (Some 30) 7 ∷ []) ∷ gauges 40 (x_of (codes "1") (Some 40) 8 ∷ []) ∷ []) ≡ gauge (codes "H") (labelled (codes "1") 30 5 ∷ []) ∷ [] ∷ [] ∷ gauge (codes "H") (labelled (codes "1") 40 8 ∷ []) ∷ []
unfolding request_after scrape_after without_info attributes_in is_info stretch_scrape series_scopes request_of reading_place placed start_time differs falls last_of has_points has_start up_to nanos whole less decimal_cmp point_at scope_name plain_number number_point number_marker metric_with marker_with marker_metric no_points shape_of target_metrics
late_lowers_nothing = refl

-- of two series only that without a time of its own has a marker
own_and_none : told 2 true (gauges 10 (x_of (codes "1") (Some 70) 1 ∷ x_of (codes "2") None 2 ∷ []) ∷ failed 20 ∷ []) ≡ gauge (codes "H") (labelled (codes "1") 70 1 ∷ labelled (codes "2") 10 2 ∷ []) ∷ gauge [] (gone_labelled (codes "2") 20 ∷ []) ∷ []
unfolding request_after scrape_after without_info attributes_in is_info stretch_scrape series_scopes request_of reading_place placed start_time differs falls last_of has_points has_start up_to nanos whole less decimal_cmp point_at scope_name plain_number number_point number_marker metric_with marker_with marker_metric no_points shape_of target_metrics
own_and_none = refl

-- own times are asked at the page before alone
own_then_none : told 2 true (gauges 10 (x_of (codes "1") (Some 70) 1 ∷ []) ∷ gauges 80 (x_of (codes "1") None 2 ∷ []) ∷ failed 90 ∷ []) ≡ gauge (codes "H") (labelled (codes "1") 70 1 ∷ []) ∷ gauge (codes "H") (labelled (codes "1") 80 2 ∷ []) ∷ gauge [] (gone_labelled (codes "1") 90 ∷ []) ∷ []
unfolding request_after scrape_after without_info attributes_in is_info stretch_scrape series_scopes request_of reading_place placed start_time differs falls last_of has_points has_start up_to nanos whole less decimal_cmp point_at scope_name plain_number number_point number_marker metric_with marker_with marker_metric no_points shape_of target_metrics
own_then_none = refl

-- a late reading beside one that is taken
late_in_family : told 2 true (gauges 10 (x_of (codes "1") (Some 50) 1 ∷ x_of (codes "2") None 2 ∷ []) ∷ gauges 20 (x_of (codes "1") (Some 50) 3 ∷ x_of (codes "2") None 4 ∷ []) ∷ []) ≡ gauge (codes "H") (labelled (codes "1") 50 1 ∷ labelled (codes "2") 10 2 ∷ []) ∷ gauge (codes "H") (labelled (codes "2") 20 4 ∷ []) ∷ []
unfolding request_after scrape_after without_info attributes_in is_info stretch_scrape series_scopes request_of reading_place placed start_time differs falls last_of has_points has_start up_to nanos whole less decimal_cmp point_at scope_name plain_number number_point number_marker metric_with marker_with marker_metric no_points shape_of target_metrics
late_in_family = refl

-- a family whose readings are all late is one without points: its markers stand alone, without its description
late_family : told 2 true (gauges 10 (x_of (codes "1") None 1 ∷ x_of (codes "2") None 2 ∷ []) ∷ gauges 20 (x_of (codes "1") (Some 0) 3 ∷ []) ∷ gauges 30 (x_of (codes "1") None 4 ∷ []) ∷ []) ≡ gauge (codes "H") (labelled (codes "1") 10 1 ∷ labelled (codes "2") 10 2 ∷ []) ∷ gauge [] (gone_labelled (codes "2") 20 ∷ []) ∷ gauge (codes "H") (labelled (codes "1") 30 4 ∷ []) ∷ []
unfolding request_after scrape_after without_info attributes_in is_info stretch_scrape series_scopes request_of reading_place placed start_time differs falls last_of has_points has_start up_to nanos whole less decimal_cmp point_at scope_name plain_number number_point number_marker metric_with marker_with marker_metric no_points shape_of target_metrics
late_family = refl

-- a moment that is the time last taken is late, and the next one is taken
moment_meets_time : told 2 true (gauges 10 (x_of (codes "1") (Some 0) 1 ∷ []) ∷ gauges 0 (x_of (codes "1") None 2 ∷ []) ∷ gauges 50 (x_of (codes "1") (Some 50) 3 ∷ []) ∷ gauges 50 (x_of (codes "1") (Some 50) 4 ∷ []) ∷ gauges 50 (x_of (codes "1") None 5 ∷ []) ∷ []) ≡ gauge (codes "H") (labelled (codes "1") 0 1 ∷ []) ∷ gauge (codes "H") (labelled (codes "1") 11 2 ∷ []) ∷ gauge (codes "H") (labelled (codes "1") 50 3 ∷ []) ∷ [] ∷ gauge (codes "H") (labelled (codes "1") 52 5 ∷ []) ∷ []
unfolding request_after scrape_after without_info attributes_in is_info stretch_scrape series_scopes request_of reading_place placed start_time differs falls last_of has_points has_start up_to nanos whole less decimal_cmp point_at scope_name plain_number number_point number_marker metric_with marker_with marker_metric no_points shape_of target_metrics
moment_meets_time = refl

-- ---- samples

-- a late reading counts in `scrape_samples_scraped`
late_counts : map (λ (r : Request). r.parts) (requests_of (target true) (record { keep = 2; honor = true }) (counters 20 (c (Some 2000) 6 ∷ []) ∷ counters 10 (c (Some 2000) 5 ∷ []) ∷ []))
    ≡ (record { resource = resource_of (target true) []; scopes = told_scope 20 1 1 ∷ [] } ∷ [])
    ∷ (record { resource = resource_of (target true) []; scopes = record { name = codes "bridge"; version = []; metrics = sum (codes "H") (point (Some 2000) 2000 5 ∷ []) } ∷ told_scope 10 1 1 ∷ [] } ∷ [])
    ∷ []
unfolding request_after scrape_after without_info attributes_in is_info stretch_scrape series_scopes request_of reading_place placed start_time differs falls last_of has_points has_start up_to nanos whole less decimal_cmp point_at scope_name plain_number number_point number_marker metric_with marker_with marker_metric no_points shape_of target_metrics
late_counts = refl
