-- The series of a page, and of the page of a scrape.
-- OpenTelemetry metrics data model, "Timeseries Model".
use Rattle.std.specs.Prelude.{Bool, not, List, [], map, filter, find, length, ◌==◌, Option, is_some}
use Rattle.std.specs.List.{flat_map}
use Rattle.label_sets.specs.declared.series_key.SeriesKey.{SeriesKey}
use Rattle.label_sets.specs.Keys.{key_eq}
use Rattle.page_model.specs.declared.page.Reading.{Reading}
use Rattle.page_model.specs.declared.page.Family.{Family}
use Rattle.page_model.specs.PageValues.{PageValue}
use Rattle.page_model.specs.declared.event.Outcome.{Outcome}
use Rattle.page_model.specs.declared.event.Outcome.TheVariants as outcomes

-- the page without families
abbrev pub empty_page : PageValue
empty_page = record { families = []; samples = 0 }

-- the page of a scrape, empty where the scrape failed
abbrev pub page_of_outcome : Outcome → PageValue
page_of_outcome (outcomes.Page page) = page
page_of_outcome (outcomes.Failed cause) = empty_page

-- the readings of a page, in page order
abbrev pub all_readings : PageValue → List Reading
all_readings page = flat_map (λ (f : Family). f.readings) page.families

-- the keys of a page, in page order
abbrev pub keys_of : PageValue → List SeriesKey
keys_of page = map (λ (r : Reading). r.key) (all_readings page)

-- the reading of a series, where the page has one
abbrev pub reading_at : SeriesKey → PageValue → Option Reading
reading_at key page = find (λ (r : Reading). key_eq key r.key) (all_readings page)

-- the series is present in the page
abbrev pub is_present : SeriesKey → PageValue → Bool
is_present key page = is_some (reading_at key page)

-- the family has readings
abbrev pub has_readings : Family → Bool
has_readings f = not (length f.readings == 0)

-- the families that have readings
abbrev pub filled_families : List Family → List Family
filled_families families = filter has_readings families

-- the page without the families that have no reading: its readings are those of the page
abbrev pub filled_page : PageValue → PageValue
filled_page page = record { families = filled_families page.families; samples = page.samples }
