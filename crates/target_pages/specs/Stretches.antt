-- What a page says of its target as a resource, and the events since that last changed.
-- OpenMetrics 1.0, "Supporting target metadata in both push-based and pull-based systems" (target_info); "Prometheus and OpenMetrics Compatibility",
-- "Resource Attributes". Which readings count, and that a change of the attributes begins all series anew, are the bridge's own.
use Rattle.std.specs.Prelude.{ℕ, Bool, true, false, not, ◌&&◌, List, [], ◌∷◌, find, codes, Option, Some, None, if◌then◌else◌}
use Rattle.std.specs.Str.{bytes_eq}
use Rattle.label_sets.specs.declared.kind.Kind.{Kind}
use Rattle.label_sets.specs.declared.kind.Kind.TheVariants.{Gauge, Info, Unknown}
use Rattle.label_sets.specs.declared.label_set.LabelSet.{LabelSet}
use Rattle.label_sets.specs.Labels.{label_sets_eq, without_label}
use Rattle.exact_decimal.specs.Numbers.{number_of}
use Rattle.exact_decimal.specs.Order.{same}
use Rattle.page_model.specs.declared.page.Value.{Value}
use Rattle.page_model.specs.declared.page.Value.TheVariants as values
use Rattle.page_model.specs.declared.page.Reading.{Reading}
use Rattle.page_model.specs.declared.page.Page.{Page}
use Rattle.page_model.specs.declared.event.Outcome.{Outcome}
use Rattle.page_model.specs.declared.event.Outcome.TheVariants as outcomes
use Rattle.page_model.specs.declared.event.Event.{Event}
use Rattle.page_model.specs.Presence.{empty_page, all_readings, page_of_outcome}
use Rattle.start_times.specs.Scrapes.{Scrape, scrape_after, scrapes_of}
use Rattle.target_pages.specs.Thinned.{page_where}

-- ---- target info

-- the kinds of which target info may be
unfoldable pub may_describe : Kind → Bool
may_describe Gauge = true
may_describe Info = true
may_describe Unknown = true
may_describe _ = false

-- the number 1
unfoldable pub is_one : Value → Bool
is_one (values.Plain n) = same n (number_of 1)
is_one _ = false

-- the reading describes the target
unfoldable pub is_info : Reading → Bool
is_info r = bytes_eq r.key.name (codes "target_info") && may_describe r.key.kind && is_one r.value

-- the page without what describes the target
unfoldable pub without_info : Page → Page
without_info page = page_where (λ r. not (is_info r)) page

-- the attributes that a page gives its target: the labels of the first reading that describes it, without the job and instance that it had there
unfoldable pub attributes_in : Page → LabelSet
attributes_in page = of (find is_info (all_readings page))
  where
    of : Option Reading → LabelSet
    of None = []
    of (Some r) = without_label (codes "exported_job") (without_label (codes "exported_instance") r.key.labels)

-- the attributes behind an event; one that failed changes nothing
abbrev pub attributes_after : LabelSet → Outcome → LabelSet
attributes_after before (outcomes.Page page) = attributes_in page
attributes_after before (outcomes.Failed cause) = before

-- the attributes behind these events, the nearest first
abbrev pub resource_attributes : List Event → LabelSet
resource_attributes [] = []
resource_attributes (e ∷ earlier) = attributes_after (resource_attributes earlier) e.outcome

-- ---- stretches

-- the event leaves the attributes as they were
abbrev pub goes_on : List Event → Event → Bool
goes_on earlier e = label_sets_eq (resource_attributes earlier) (resource_attributes (e ∷ earlier))

-- the moment of an event behind earlier ones
abbrev pub moment_of : List Event → Event → ℕ
moment_of earlier e = (scrape_after (scrapes_of earlier) e).moment

-- the scrape of an event, without what describes the target
unfoldable pub stretch_scrape : List Event → Event → Scrape
stretch_scrape earlier e = record { moment = moment_of earlier e; page = without_info (page_of_outcome e.outcome) }

-- the scrapes since the attributes last changed, the nearest first
abbrev pub stretch_of : List Event → List Scrape
stretch_of [] = []
stretch_of (e ∷ earlier) = stretch_scrape earlier e ∷ (if goes_on earlier e then stretch_of earlier else [])

-- what a change of the attributes ends the stretch before with: a scrape that has nothing
abbrev pub closing_scrape : List Event → Event → Scrape
closing_scrape earlier e = record { moment = moment_of earlier e; page = empty_page }
