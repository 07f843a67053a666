-- The words of cases: a target, its scrapes, and what trees of them have.
use Rattle.std.proofs.Common.{ℕ, Bool, false, List, [], ◌∷◌, Option, Some, None, codes}
use Rattle.label_sets.specs.declared.kind.Kind.{Kind}
use Rattle.label_sets.specs.declared.label.Label.{Label}
use Rattle.exact_decimal.specs.declared.number.Number.{Number}
use Rattle.exact_decimal.specs.declared.number.Number.TheVariants.{Finite}
use Rattle.page_model.specs.declared.page.Reading.{Reading}
use Rattle.page_model.specs.declared.page.Family.{Family}
use Rattle.page_model.specs.declared.page.Value.TheVariants as values
use Rattle.page_model.specs.declared.event.Event.{Event}
use Rattle.page_model.specs.declared.event.Cause.TheVariants as causes
use Rattle.page_model.specs.declared.event.Outcome.TheVariants as outcomes
use Rattle.otlp_tree.specs.declared.tree.ScopeMetrics.{ScopeMetrics}
use Rattle.otlp_tree.specs.declared.tree.NumberPoint.{NumberPoint}
use Rattle.bridge_ports.specs.Targets.{Scraped}
use Rattle.target_core.specs.Trees.{target_gauge}

-- a target; times of its pages count, or not
abbrev pub target : Bool → Scraped
target honor = record { job = codes "j"; instance = codes "h:1"; address = record { host = codes "h"; port = 1; path = codes "/metrics" }; honor = honor }

-- a label
abbrev pub label : List ℕ → List ℕ → Label
label name value = record { name = name; value = value }

-- a decimal of digits and of places behind the point
abbrev pub fraction : ℕ → ℕ → Number
fraction n places = Finite (record { negative = false; digits = n; up = 0; down = places })

-- a whole number
abbrev pub number : ℕ → Number
number n = fraction n 0

-- a reading of this kind and name, with these labels, this time of its own and this value, created at so many seconds
abbrev pub reading : Kind → List ℕ → List Label → Option Number → Option ℕ → ℕ → Reading
reading kind name labels created own value = record { key = record { name = name; kind = kind; unit = []; labels = labels }; value = values.Plain (number value); created = created; stamp = own; exemplars = [] }

-- a family, with a help text
abbrev pub family : Kind → List ℕ → List Reading → Family
family kind name readings = record { name = name; kind = kind; help = codes "H"; unit = []; readings = readings }

-- a scrape of families with so many samples
abbrev pub scrape : ℕ → ℕ → List Family → Event
scrape at samples families = record { reading = at; outcome = outcomes.Page (record { families = families; samples = samples }) }

-- a scrape of nothing, and one that failed
abbrev pub nothing : ℕ → Event
nothing at = scrape at 0 []

abbrev pub failed : ℕ → Event
failed at = record { reading = at; outcome = outcomes.Failed causes.Truncated }

-- points with these labels, and points without a value
abbrev pub labelled : List Label → Option ℕ → ℕ → ℕ → NumberPoint
labelled labels start time value = record { labels = labels; start = start; time = time; value = Some (number value); exemplars = [] }

abbrev pub gone_labelled : List Label → Option ℕ → ℕ → NumberPoint
gone_labelled labels start time = record { labels = labels; start = start; time = time; value = None; exemplars = [] }

-- the scope of what is said of a scrape
abbrev pub told_scope : ℕ → ℕ → ℕ → ScopeMetrics
told_scope time up samples = record { name = codes "bridge.target"; version = []; metrics = target_gauge (codes "up") time up ∷ target_gauge (codes "scrape_samples_scraped") time samples ∷ [] }
