-- The points without a value of small trees, by computation.
use Rattle.std.proofs.Common.{◌≡◌, ℕ, false, List, [], ◌∷◌, map, None, codes, refl}
use Rattle.std.specs.Fmt.{digits}
use Rattle.label_sets.specs.declared.kind.Kind.{Kind}
use Rattle.label_sets.specs.declared.kind.Kind.TheVariants as kinds
use Rattle.label_sets.specs.declared.label_set.LabelSet.{LabelSet}
use Rattle.label_sets.specs.declared.series_key.SeriesKey.{SeriesKey}
use Rattle.exact_decimal.specs.Decimals.{decimal_cmp}
use Rattle.exact_decimal.specs.Numbers.{number_of}
use Rattle.exact_decimal.specs.Order.{same}
use Rattle.exact_decimal.specs.Tokens.{one_form, trailing_zeros, without_trailing_zeros, significant_digits, without_leading_zeros}
use Rattle.page_model.specs.declared.page.Family.{Family}
use Rattle.page_model.specs.declared.page.Value.TheVariants as values
use Rattle.page_model.specs.declared.event.Event.{Event}
use Rattle.page_model.specs.declared.event.Cause.TheVariants as causes
use Rattle.page_model.specs.declared.event.Outcome.TheVariants as outcomes
use Rattle.otlp_tree.specs.declared.tree.Request.{Request}
use Rattle.bridge_ports.specs.Targets.{Scraped}
use Rattle.start_times.specs.Scrapes.{scrape_after}
use Rattle.start_times.specs.Starts.{has_points, has_start, placed, reading_place}
use Rattle.family_metrics.specs.Scopes.{bridge_scope, scope_name}
use Rattle.target_pages.specs.Stretches.{may_describe, is_one, is_info, without_info, attributes_in, stretch_scrape}
use Rattle.family_metrics.specs.Points.{point_at, plain_number, number_point}
use Rattle.family_metrics.specs.Markers.{number_marker, metric_with, marker_metric, no_points}
use Rattle.family_metrics.specs.Metrics.{shape_of}
use Rattle.target_core.specs.Trees.{target_gauge, target_metrics, request_of}
use Rattle.scope_metrics.specs.PageScopes.{series_scopes}
use Rattle.target_core.specs.Events.{marker_with, request_after}
use Rattle.point_laws.specs.MarkerLaws.{PointInScope, point_in_scope, unvalued_in_part, gone_point}

-- a target
abbrev target : Scraped
target = record { job = codes "j"; instance = codes "h:1"; address = record { host = codes "h"; port = 1; path = codes "/metrics" }; honor = false }

-- a series
abbrev series : List ℕ → Kind → LabelSet → SeriesKey
series name kind labels = record { name = name; kind = kind; unit = []; labels = labels }

-- a family of one reading
abbrev family : List ℕ → Kind → LabelSet → Family
family name kind labels = record { name = name; kind = kind; help = []; unit = []; readings = record { key = series name kind labels; value = values.Plain (number_of 1); created = None; stamp = None; exemplars = [] } ∷ [] }

-- what describes a target by one label
abbrev info : LabelSet → Family
info labels = family (codes "target_info") kinds.Gauge labels

-- one label
abbrev label : List ℕ → List ℕ → LabelSet
label name value = record { name = name; value = value } ∷ []

-- a scrape of a page
abbrev scraped : ℕ → List Family → Event
scraped at families = record { reading = at; outcome = outcomes.Page (record { families = families; samples = 2 }) }

-- the tree of an event behind one other
abbrev tree_behind : Event → Event → Request
tree_behind before now = request_after target (record { keep = 2; honor = false }) (before ∷ []) now

-- the points without a value of each of its parts
abbrev told : Event → Event → List (List PointInScope)
told before now = map unvalued_in_part (tree_behind before now).parts

-- the point of a series without labels that is gone
abbrev gone : List ℕ → Kind → PointInScope
gone name kind = point_in_scope bridge_scope (gone_point 2000 (series name kind []))

-- behind a scrape that failed all are told
all_gone : told (scraped 1000 (family (codes "x") kinds.Gauge [] ∷ family (codes "c") kinds.Counter [] ∷ [])) (record { reading = 2000; outcome = outcomes.Failed causes.Connect })
    ≡ (gone (codes "x") kinds.Gauge ∷ gone (codes "c") kinds.Counter ∷ []) ∷ []
unfolding request_after request_of series_scopes scrape_after stretch_scrape without_info is_info may_describe is_one attributes_in scope_name reading_place placed has_points has_start point_at plain_number number_point number_marker metric_with marker_with marker_metric no_points shape_of target_gauge target_metrics
all_gone = refl

-- a series of another kind is told beside the one that is there
kind_gone : told (scraped 1000 (family (codes "x") kinds.Gauge [] ∷ family (codes "c") kinds.Counter [] ∷ [])) (scraped 2000 (family (codes "c") kinds.Counter [] ∷ family (codes "x") kinds.Unknown [] ∷ []))
    ≡ (gone (codes "x") kinds.Gauge ∷ []) ∷ []
unfolding request_after request_of series_scopes scrape_after stretch_scrape without_info is_info may_describe is_one attributes_in scope_name reading_place placed has_points has_start point_at plain_number number_point number_marker metric_with marker_with marker_metric no_points shape_of target_gauge target_metrics
kind_gone = refl

-- a series that names a scope is told there, without the label that names it
scope_gone : told (scraped 1000 (family (codes "x") kinds.Gauge [] ∷ family (codes "y") kinds.Gauge (label (codes "otel_scope_name") (codes "s")) ∷ [])) (scraped 2000 (family (codes "x") kinds.Gauge [] ∷ []))
    ≡ (point_in_scope (record { name = codes "s"; version = [] }) (gone_point 2000 (series (codes "y") kinds.Gauge [])) ∷ []) ∷ []
unfolding request_after request_of series_scopes scrape_after stretch_scrape without_info is_info may_describe is_one attributes_in scope_name reading_place placed has_points has_start point_at plain_number number_point number_marker metric_with marker_with marker_metric no_points shape_of target_gauge target_metrics
scope_gone = refl

-- where the attributes change, all series of before are told in a second part
attributes_gone : told (scraped 1000 (info (label (codes "v") (codes "1")) ∷ family (codes "x") kinds.Gauge [] ∷ [])) (scraped 2000 (info (label (codes "v") (codes "2")) ∷ family (codes "x") kinds.Gauge [] ∷ []))
    ≡ [] ∷ (gone (codes "x") kinds.Gauge ∷ []) ∷ []
unfolding digits same number_of one_form trailing_zeros without_trailing_zeros significant_digits without_leading_zeros decimal_cmp request_after request_of series_scopes scrape_after stretch_scrape without_info is_info may_describe is_one attributes_in scope_name reading_place placed has_points has_start point_at plain_number number_point number_marker metric_with marker_with marker_metric no_points shape_of target_gauge target_metrics
attributes_gone = refl

-- where nothing was there before the change, there is no second part
nothing_gone : told (scraped 1000 (info (label (codes "v") (codes "1")) ∷ [])) (scraped 2000 (info (label (codes "v") (codes "2")) ∷ family (codes "x") kinds.Gauge [] ∷ []))
    ≡ [] ∷ []
unfolding digits same number_of one_form trailing_zeros without_trailing_zeros significant_digits without_leading_zeros decimal_cmp request_after request_of series_scopes scrape_after stretch_scrape without_info is_info may_describe is_one attributes_in scope_name reading_place placed has_points has_start point_at plain_number number_point number_marker metric_with marker_with marker_metric no_points shape_of target_gauge target_metrics
nothing_gone = refl
