-- The trees of histories whose pages have target info or name scopes, by computation.
use Rattle.std.proofs.Common.{◌≡◌, ℕ, true, false, List, [], ◌∷◌, map, Some, None, codes, reverse, refl}
use Rattle.std.specs.Fmt.{digits}
use Rattle.label_sets.specs.declared.kind.Kind.{Kind}
use Rattle.label_sets.specs.declared.kind.Kind.TheVariants as kinds
use Rattle.label_sets.specs.declared.label.Label.{Label}
use Rattle.exact_decimal.specs.Decimals.{decimal_cmp}
use Rattle.exact_decimal.specs.Tokens.{without_leading_zeros, trailing_zeros, without_trailing_zeros, significant_digits, one_form}
use Rattle.exact_decimal.specs.Numbers.{number_of}
use Rattle.exact_decimal.specs.Order.{less, same, nanos, whole}
use Rattle.page_model.specs.declared.page.Family.{Family}
use Rattle.page_model.specs.declared.event.Event.{Event}
use Rattle.otlp_tree.specs.declared.tree.Request.{Request}
use Rattle.otlp_tree.specs.declared.tree.ResourceMetrics.{ResourceMetrics}
use Rattle.otlp_tree.specs.declared.tree.ScopeMetrics.{ScopeMetrics}
use Rattle.otlp_tree.specs.declared.tree.Metric.{Metric}
use Rattle.otlp_tree.specs.declared.tree.Shape.{Shape}
use Rattle.otlp_tree.specs.declared.tree.Shape.TheVariants as shapes
use Rattle.otlp_tree.specs.declared.tree.NumberPoint.{NumberPoint}
use Rattle.start_times.specs.Scrapes.{scrape_after}
use Rattle.start_times.specs.Starts.{has_points, has_start, up_to, last_of, falls, differs, start_time, placed, reading_place}
use Rattle.family_metrics.specs.Scopes.{scope_name}
use Rattle.target_pages.specs.Stretches.{may_describe, is_one, is_info, without_info, attributes_in, stretch_scrape}
use Rattle.family_metrics.specs.Points.{point_at, plain_number, number_point}
use Rattle.family_metrics.specs.Markers.{number_marker, metric_with, marker_metric, no_points}
use Rattle.family_metrics.specs.Metrics.{shape_of}
use Rattle.target_core.specs.Trees.{target_metrics, resource_of, request_of}
use Rattle.scope_metrics.specs.PageScopes.{series_scopes}
use Rattle.target_core.specs.Events.{marker_with, request_after, requests_of}
use Rattle.target_core.proofs.CaseWords.{target, label, reading, family, scrape, failed, labelled, gone_labelled, told_scope}

-- ---- words of the cases

-- the one label of target info
abbrev env : List ℕ → List Label
env value = label (codes "env") value ∷ []

-- target info of a kind with these labels and this number
abbrev info_of : Kind → List Label → ℕ → Family
info_of kind labels n = family kind (codes "target_info") (reading kind (codes "target_info") labels None None n ∷ [])

-- target info with one label
abbrev info : List ℕ → Family
info value = info_of kinds.Info (env value) 1

-- a family of one counter without labels
abbrev c : ℕ → Family
c value = family kinds.Counter (codes "c") (reading kinds.Counter (codes "c") [] None None value ∷ [])

-- gauges of a name, each with labels and its number
abbrev gauges : List ℕ → List (List Label × ℕ) → Family
gauges name list = family kinds.Gauge name (map (λ (p : List Label × ℕ). reading kinds.Gauge name p.0 None None p.1) list)

-- the labels that name a scope, alone and with a version
abbrev named : List ℕ → List Label
named scope = label (codes "otel_scope_name") scope ∷ []

abbrev versioned : List ℕ → List ℕ → List Label
versioned scope version = label (codes "otel_scope_name") scope ∷ label (codes "otel_scope_version") version ∷ []

-- the trees of these events in their order
abbrev told : List Event → List Request
told events = reverse (requests_of (target false) (record { keep = 2; honor = false }) (reverse events))

-- a tree of parts, and a part
abbrev tree : List ResourceMetrics → Request
tree parts = record { parts = parts }

abbrev part : List Label → List ScopeMetrics → ResourceMetrics
part attributes scopes = record { resource = resource_of (target false) attributes; scopes = scopes }

-- a scope, and that of series that name none
abbrev scope : List ℕ → List ℕ → List Metric → ScopeMetrics
scope name version metrics = record { name = name; version = version; metrics = metrics }

abbrev own : List Metric → ScopeMetrics
own metrics = scope (codes "bridge") [] metrics

-- a metric
abbrev metric : List ℕ → List ℕ → Shape → Metric
metric name help shape = record { name = name; description = help; unit = []; shape = shape }

-- that of the counter, and of its marker alone
abbrev counted : ℕ → ℕ → ℕ → Metric
counted start time value = metric (codes "c") (codes "H") (shapes.Sum (labelled [] (Some start) time value ∷ []) true)

abbrev uncounted : ℕ → ℕ → Metric
uncounted start time = metric (codes "c") [] (shapes.Sum (gone_labelled [] (Some start) time ∷ []) true)

-- that of gauges, and of markers alone
abbrev gauge : List ℕ → List NumberPoint → Metric
gauge name points = metric name (codes "H") (shapes.Gauge points)

abbrev gone_gauge : List ℕ → List NumberPoint → Metric
gone_gauge name points = metric name [] (shapes.Gauge points)

-- points at a time
abbrev point : List Label → ℕ → ℕ → NumberPoint
point labels time value = labelled labels None time value

-- ---- target info

-- target info that changes: series begin anew, and those of before are gone in a part of their own
target_info : told (scrape 10 2 (info (codes "a") ∷ c 5 ∷ []) ∷ scrape 20 2 (info (codes "b") ∷ c 6 ∷ []) ∷ [])
    ≡ tree (part (env (codes "a")) (own (counted 10 10 5 ∷ []) ∷ told_scope 10 1 2 ∷ []) ∷ [])
    ∷ tree (part (env (codes "b")) (own (counted 20 20 6 ∷ []) ∷ told_scope 20 1 2 ∷ []) ∷ part (env (codes "a")) (own (uncounted 10 20 ∷ []) ∷ []) ∷ []) ∷ []
unfolding request_after scrape_after without_info attributes_in is_info may_describe is_one same number_of digits one_form trailing_zeros without_trailing_zeros significant_digits without_leading_zeros stretch_scrape series_scopes request_of reading_place placed start_time differs falls last_of has_points has_start up_to nanos whole less decimal_cmp point_at scope_name plain_number number_point number_marker metric_with marker_with marker_metric no_points shape_of target_metrics
target_info = refl

-- a failed scrape keeps the attributes, and its markers stand in the one part; starts stay where the attributes return
kept_at_failure : told (scrape 10 2 (info (codes "a") ∷ c 5 ∷ []) ∷ failed 20 ∷ scrape 30 2 (info (codes "a") ∷ c 7 ∷ []) ∷ [])
    ≡ tree (part (env (codes "a")) (own (counted 10 10 5 ∷ []) ∷ told_scope 10 1 2 ∷ []) ∷ [])
    ∷ tree (part (env (codes "a")) (own (uncounted 10 20 ∷ []) ∷ told_scope 20 0 0 ∷ []) ∷ [])
    ∷ tree (part (env (codes "a")) (own (counted 10 30 7 ∷ []) ∷ told_scope 30 1 2 ∷ []) ∷ []) ∷ []
unfolding request_after scrape_after without_info attributes_in is_info may_describe is_one same number_of digits one_form trailing_zeros without_trailing_zeros significant_digits without_leading_zeros stretch_scrape series_scopes request_of reading_place placed start_time differs falls last_of has_points has_start up_to nanos whole less decimal_cmp point_at scope_name plain_number number_point number_marker metric_with marker_with marker_metric no_points shape_of target_metrics
kept_at_failure = refl

-- a page without target info has no attributes
lost_without_info : told (scrape 10 2 (info (codes "a") ∷ c 5 ∷ []) ∷ scrape 20 1 (c 6 ∷ []) ∷ [])
    ≡ tree (part (env (codes "a")) (own (counted 10 10 5 ∷ []) ∷ told_scope 10 1 2 ∷ []) ∷ [])
    ∷ tree (part [] (own (counted 20 20 6 ∷ []) ∷ told_scope 20 1 1 ∷ []) ∷ part (env (codes "a")) (own (uncounted 10 20 ∷ []) ∷ []) ∷ []) ∷ []
unfolding request_after scrape_after without_info attributes_in is_info may_describe is_one same number_of digits one_form trailing_zeros without_trailing_zeros significant_digits without_leading_zeros stretch_scrape series_scopes request_of reading_place placed start_time differs falls last_of has_points has_start up_to nanos whole less decimal_cmp point_at scope_name plain_number number_point number_marker metric_with marker_with marker_metric no_points shape_of target_metrics
lost_without_info = refl

-- a change behind a failed scrape has no marker, so one part
change_behind_failure : told (scrape 10 2 (info (codes "a") ∷ c 5 ∷ []) ∷ failed 20 ∷ scrape 30 2 (info (codes "b") ∷ c 6 ∷ []) ∷ [])
    ≡ tree (part (env (codes "a")) (own (counted 10 10 5 ∷ []) ∷ told_scope 10 1 2 ∷ []) ∷ [])
    ∷ tree (part (env (codes "a")) (own (uncounted 10 20 ∷ []) ∷ told_scope 20 0 0 ∷ []) ∷ [])
    ∷ tree (part (env (codes "b")) (own (counted 30 30 6 ∷ []) ∷ told_scope 30 1 2 ∷ []) ∷ []) ∷ []
unfolding request_after scrape_after without_info attributes_in is_info may_describe is_one same number_of digits one_form trailing_zeros without_trailing_zeros significant_digits without_leading_zeros stretch_scrape series_scopes request_of reading_place placed start_time differs falls last_of has_points has_start up_to nanos whole less decimal_cmp point_at scope_name plain_number number_point number_marker metric_with marker_with marker_metric no_points shape_of target_metrics
change_behind_failure = refl

-- a gauge or a series of unknown kind is target info too
other_kinds : told (scrape 10 1 (info_of kinds.Gauge (env (codes "a")) 1 ∷ []) ∷ scrape 20 1 (info_of kinds.Unknown (env (codes "a")) 1 ∷ []) ∷ [])
    ≡ tree (part (env (codes "a")) (told_scope 10 1 1 ∷ []) ∷ [])
    ∷ tree (part (env (codes "a")) (told_scope 20 1 1 ∷ []) ∷ []) ∷ []
unfolding request_after scrape_after without_info attributes_in is_info may_describe is_one same number_of digits one_form trailing_zeros without_trailing_zeros significant_digits without_leading_zeros stretch_scrape series_scopes request_of reading_place placed start_time differs falls last_of has_points has_start up_to nanos whole less decimal_cmp point_at scope_name plain_number number_point number_marker metric_with marker_with marker_metric no_points shape_of target_metrics
other_kinds = refl

-- one whose number is not 1 is a series, which is gone where it becomes target info
info_of_two : told (scrape 10 1 (info_of kinds.Gauge (env (codes "a")) 2 ∷ []) ∷ scrape 20 1 (info_of kinds.Gauge (env (codes "a")) 1 ∷ []) ∷ [])
    ≡ tree (part [] (own (gauge (codes "target_info") (point (env (codes "a")) 10 2 ∷ []) ∷ []) ∷ told_scope 10 1 1 ∷ []) ∷ [])
    ∷ tree (part (env (codes "a")) (told_scope 20 1 1 ∷ []) ∷ part [] (own (gone_gauge (codes "target_info") (gone_labelled (env (codes "a")) None 20 ∷ []) ∷ []) ∷ []) ∷ []) ∷ []
unfolding request_after scrape_after without_info attributes_in is_info may_describe is_one same number_of digits one_form trailing_zeros without_trailing_zeros significant_digits without_leading_zeros stretch_scrape series_scopes request_of reading_place placed start_time differs falls last_of has_points has_start up_to nanos whole less decimal_cmp point_at scope_name plain_number number_point number_marker metric_with marker_with marker_metric no_points shape_of target_metrics
info_of_two = refl

-- so is a counter of that name
info_counter : told (scrape 10 1 (info_of kinds.Counter (env (codes "a")) 1 ∷ []) ∷ [])
    ≡ tree (part [] (own (metric (codes "target_info") (codes "H") (shapes.Sum (labelled (env (codes "a")) (Some 10) 10 1 ∷ []) true) ∷ []) ∷ told_scope 10 1 1 ∷ []) ∷ []) ∷ []
unfolding request_after scrape_after without_info attributes_in is_info may_describe is_one same number_of digits one_form trailing_zeros without_trailing_zeros significant_digits without_leading_zeros stretch_scrape series_scopes request_of reading_place placed start_time differs falls last_of has_points has_start up_to nanos whole less decimal_cmp point_at scope_name plain_number number_point number_marker metric_with marker_with marker_metric no_points shape_of target_metrics
info_counter = refl

-- the first gives the attributes, without the job and instance that it had there
first_info : told (scrape 10 2 (family kinds.Gauge (codes "target_info") (reading kinds.Gauge (codes "target_info") (label (codes "env") (codes "a") ∷ label (codes "exported_instance") (codes "i") ∷ label (codes "exported_job") (codes "j") ∷ []) None None 1 ∷ reading kinds.Gauge (codes "target_info") (env (codes "b")) None None 1 ∷ []) ∷ []) ∷ [])
    ≡ tree (part (env (codes "a")) (told_scope 10 1 2 ∷ []) ∷ []) ∷ []
unfolding request_after scrape_after without_info attributes_in is_info may_describe is_one same number_of digits one_form trailing_zeros without_trailing_zeros significant_digits without_leading_zeros stretch_scrape series_scopes request_of reading_place placed start_time differs falls last_of has_points has_start up_to nanos whole less decimal_cmp point_at scope_name plain_number number_point number_marker metric_with marker_with marker_metric no_points shape_of target_metrics
first_info = refl

-- ---- scopes

-- a series that names its scope, with a version, beside one that names a scope alone
named_scopes : told (scrape 1000 2 (gauges (codes "x") ((label (codes "a") (codes "b") ∷ versioned (codes "lib") (codes "2"), 1) ∷ (named (codes "lib"), 3) ∷ []) ∷ []) ∷ [])
    ≡ tree (part [] (scope (codes "lib") (codes "2") (gauge (codes "x") (point (label (codes "a") (codes "b") ∷ []) 1000 1 ∷ []) ∷ []) ∷ scope (codes "lib") [] (gauge (codes "x") (point [] 1000 3 ∷ []) ∷ []) ∷ told_scope 1000 1 2 ∷ []) ∷ []) ∷ []
unfolding request_after scrape_after without_info attributes_in is_info may_describe is_one same number_of digits one_form trailing_zeros without_trailing_zeros significant_digits without_leading_zeros stretch_scrape series_scopes request_of reading_place placed start_time differs falls last_of has_points has_start up_to nanos whole less decimal_cmp point_at scope_name plain_number number_point number_marker metric_with marker_with marker_metric no_points shape_of target_metrics
named_scopes = refl

-- the bridge's own names name no scope, nor does a version alone: the labels stay
own_names : told (scrape 10 3 (gauges (codes "x") ((versioned (codes "bridge") (codes "1"), 1) ∷ (named (codes "bridge.target"), 2) ∷ (label (codes "otel_scope_version") (codes "3") ∷ [], 3) ∷ []) ∷ []) ∷ [])
    ≡ tree (part [] (own (gauge (codes "x") (point (versioned (codes "bridge") (codes "1")) 10 1 ∷ point (named (codes "bridge.target")) 10 2 ∷ point (label (codes "otel_scope_version") (codes "3") ∷ []) 10 3 ∷ []) ∷ []) ∷ told_scope 10 1 3 ∷ []) ∷ []) ∷ []
unfolding request_after scrape_after without_info attributes_in is_info may_describe is_one same number_of digits one_form trailing_zeros without_trailing_zeros significant_digits without_leading_zeros stretch_scrape series_scopes request_of reading_place placed start_time differs falls last_of has_points has_start up_to nanos whole less decimal_cmp point_at scope_name plain_number number_point number_marker metric_with marker_with marker_metric no_points shape_of target_metrics
own_names = refl

-- the scope of the bridge comes first, the others by their first points, and those that have markers alone last
order_of_scopes : told (scrape 10 3 (gauges (codes "x") ((named (codes "b"), 1) ∷ (named (codes "a"), 2) ∷ ([], 3) ∷ []) ∷ []) ∷ scrape 20 1 (gauges (codes "x") ((named (codes "a"), 4) ∷ []) ∷ []) ∷ [])
    ≡ tree (part [] (own (gauge (codes "x") (point [] 10 3 ∷ []) ∷ []) ∷ scope (codes "b") [] (gauge (codes "x") (point [] 10 1 ∷ []) ∷ []) ∷ scope (codes "a") [] (gauge (codes "x") (point [] 10 2 ∷ []) ∷ []) ∷ told_scope 10 1 3 ∷ []) ∷ [])
    ∷ tree (part [] (own (gone_gauge (codes "x") (gone_labelled [] None 20 ∷ []) ∷ []) ∷ scope (codes "a") [] (gauge (codes "x") (point [] 20 4 ∷ []) ∷ []) ∷ scope (codes "b") [] (gone_gauge (codes "x") (gone_labelled [] None 20 ∷ []) ∷ []) ∷ told_scope 20 1 1 ∷ []) ∷ []) ∷ []
unfolding request_after scrape_after without_info attributes_in is_info may_describe is_one same number_of digits one_form trailing_zeros without_trailing_zeros significant_digits without_leading_zeros stretch_scrape series_scopes request_of reading_place placed start_time differs falls last_of has_points has_start up_to nanos whole less decimal_cmp point_at scope_name plain_number number_point number_marker metric_with marker_with marker_metric no_points shape_of target_metrics
order_of_scopes = refl

-- the part of the attributes before has scopes too
scope_at_a_change : told (scrape 10 2 (info (codes "a") ∷ gauges (codes "x") ((named (codes "s"), 1) ∷ []) ∷ []) ∷ scrape 20 2 (info (codes "b") ∷ gauges (codes "x") ((named (codes "s"), 2) ∷ []) ∷ []) ∷ [])
    ≡ tree (part (env (codes "a")) (scope (codes "s") [] (gauge (codes "x") (point [] 10 1 ∷ []) ∷ []) ∷ told_scope 10 1 2 ∷ []) ∷ [])
    ∷ tree (part (env (codes "b")) (scope (codes "s") [] (gauge (codes "x") (point [] 20 2 ∷ []) ∷ []) ∷ told_scope 20 1 2 ∷ []) ∷ part (env (codes "a")) (scope (codes "s") [] (gone_gauge (codes "x") (gone_labelled [] None 20 ∷ []) ∷ []) ∷ []) ∷ []) ∷ []
unfolding request_after scrape_after without_info attributes_in is_info may_describe is_one same number_of digits one_form trailing_zeros without_trailing_zeros significant_digits without_leading_zeros stretch_scrape series_scopes request_of reading_place placed start_time differs falls last_of has_points has_start up_to nanos whole less decimal_cmp point_at scope_name plain_number number_point number_marker metric_with marker_with marker_metric no_points shape_of target_metrics
scope_at_a_change = refl
