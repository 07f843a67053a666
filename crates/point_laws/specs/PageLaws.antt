-- Laws of what a page comes to. Each is proved, and a call of the crate stands for it.
-- OpenTelemetry, "Prometheus and OpenMetrics Compatibility", "Prometheus Metric points to OTLP" and "Instrumentation Scope"; Prometheus, `honor_timestamps`.
-- That no reading but a late one, and what describes the target, is left out is the bridge's own.
use Rattle.std.specs.Prelude.{◌≡◌, ℕ, Bool, false, Option, List, [], length, map, filter, All, if◌then◌else◌}
use Rattle.std.specs.List.{sum_by}
use Rattle.std.specs.Option.{option_map_or}
use Rattle.label_sets.specs.declared.kind.Kind.{Kind}
use Rattle.label_sets.specs.declared.kind.Kind.TheVariants.{GaugeHistogram}
use Rattle.label_sets.specs.declared.series_key.SeriesKey.{SeriesKey}
use Rattle.page_model.specs.declared.page.Reading.{Reading}
use Rattle.page_model.specs.declared.page.Family.{Family}
use Rattle.page_model.specs.declared.page.Page.{Page}
use Rattle.page_model.specs.declared.event.Event.{Event}
use Rattle.page_model.specs.declared.event.Outcome.TheVariants as outcomes
use Rattle.otlp_tree.specs.declared.tree.Metric.{Metric}
use Rattle.otlp_tree.specs.declared.tree.Shape.{Shape}
use Rattle.otlp_tree.specs.declared.tree.Shape.TheVariants as shapes
use Rattle.start_times.specs.declared.row.Placed.{Placed}
use Rattle.start_times.specs.Scrapes.{Scrape}
use Rattle.start_times.specs.Starts.{Tracking, is_taken, reading_place}
use Rattle.family_metrics.specs.Scopes.{Scope}
use Rattle.target_pages.specs.Thinned.{page_where}
use Rattle.target_pages.specs.Stretches.{without_info, goes_on, moment_of, stretch_of}
use Rattle.family_metrics.specs.Metrics.{family_metric}
use Rattle.scope_metrics.specs.PageScopes.{is_in_scope, has_point, scopes_in}
use Rattle.target_core.specs.Events.{marker_with}

-- ---- points of families

-- how many points a metric's shape has
abbrev pub points_in : Shape → ℕ
points_in (shapes.Gauge points) = length points
points_in (shapes.Sum points monotonic) = length points
points_in (shapes.Histogram points) = length points
points_in (shapes.Summary points) = length points

-- how many points the metric of a family has; without a metric there are none
abbrev pub points_of_family : (Reading → Option Placed) → Family → ℕ
points_of_family place f = option_map_or (λ (m : Metric). points_in m.shape) (family_metric place f) 0

-- how many points so many readings of a kind are to have: gauge histograms have none
abbrev pub points_due : Kind → ℕ → ℕ
points_due GaugeHistogram readings = 0
points_due _ readings = readings

-- how many points a family is to have for all of its readings
abbrev pub due_of_all : Family → ℕ
due_of_all f = points_due f.kind (length f.readings)

-- and for those that pass a test
abbrev pub due_of_passing : (Reading → Bool) → Family → ℕ
due_of_passing test f = points_due f.kind (length (filter test f.readings))

-- the metric of each family has the points that are due
abbrev pub HavePoints : (Reading → Option Placed) → (Family → ℕ) → Page → Type 0
HavePoints place due page = All (λ (f : Family). points_of_family place f ≡ due f) page.families

-- ---- points in scopes

-- the family with the readings of a scope alone
abbrev pub family_in : Scope → Family → Family
family_in s f = record { name = f.name; kind = f.kind; help = f.help; unit = f.unit; readings = filter (is_in_scope s) f.readings }

-- how many points a family has in these scopes together
abbrev pub points_over : (Reading → Option Placed) → List Scope → Family → ℕ
points_over place scopes f = sum_by (λ s. points_of_family place (family_in s f)) scopes

-- the series that are gone of which a tree tells beside a page: these, with their starts, at a moment
pub record ToldGone : Type 0 where
  pub start : SeriesKey → Option ℕ
  pub moment : ℕ
  pub gone : List SeriesKey

-- the scopes of a page, and of the series of which is told beside it
abbrev pub scopes_beside : (Reading → Option Placed) → ToldGone → Page → List Scope
scopes_beside place told page = scopes_in place (map (marker_with told.start told.moment) told.gone) page

-- no point is lost: the metrics of the page have those that are due, so have in each scope those of its own readings, and over all scopes a family has as many as are due to it
pub record LosesNothing (place : Reading → Option Placed) (due : Family → ℕ) (told : ToldGone) (page : Page) : Type 0 where
  pub in_page : HavePoints place due page
  pub in_scope : (s : Scope) → HavePoints place due (page_where (is_in_scope s) page)
  pub in_all : All (λ (f : Family). points_over place (scopes_beside place told page) f ≡ due f) page.families

-- ---- laws

-- whatever the places of its readings: each that has a point at its place has it in the metric of its family, and in just one scope
abbrev pub EachPlaceHasAPoint : Page → Type 0
EachPlaceHasAPoint page = (place : Reading → Option Placed) (told : ToldGone) → LosesNothing place (due_of_passing (has_point place)) told page

-- behind every past: so has each reading that is taken
abbrev pub EachTakenHasAPoint : Page → Type 0
EachTakenHasAPoint page = (t : Tracking) (past : List Scrape) (moment : ℕ) (told : ToldGone) → LosesNothing (reading_place t past moment) (due_of_passing (λ (r : Reading). is_taken t moment r past)) told page

-- the event of a page, at this reading of the clock
abbrev pub page_event : ℕ → Page → Event
page_event at page = record { reading = at; outcome = outcomes.Page page }

-- the past behind which the page of an event is read: the scrapes since the attributes of its target last changed, none where this event changes them
abbrev pub past_of : List Event → Event → List Scrape
past_of earlier e = if goes_on earlier e then stretch_of earlier else []

-- the places of its readings
abbrev pub event_place : Tracking → List Event → Event → Reading → Option Placed
event_place t earlier e = reading_place t (past_of earlier e) (moment_of earlier e)

-- behind all events of a target whose times of the page don't count: so has each reading but those that describe the target
abbrev pub EachReadingHasAPoint : Page → Type 0
EachReadingHasAPoint page = (t : Tracking) (earlier : List Event) (at : ℕ) (told : ToldGone) → t.honor ≡ false
    → LosesNothing (event_place t earlier (page_event at page)) due_of_all told (without_info page)
