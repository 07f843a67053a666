-- The tree of an event, with the times, the starts and the markers that the past of its target gives.
-- "Prometheus and OpenMetrics Compatibility", "Resource Attributes"; Prometheus, "Jobs and instances" (up, scrape_samples_scraped). The name of the scope
-- `bridge.target`, and that it stands last, are the bridge's own.
use Rattle.std.specs.Prelude.{◌≡◌, ℕ, List, [], ◌∷◌, ◌++◌, map, codes, Option, Some, None}
use Rattle.label_sets.specs.declared.label.Label.{Label}
use Rattle.label_sets.specs.declared.label_set.LabelSet.{LabelSet}
use Rattle.exact_decimal.specs.Numbers.{number_of}
use Rattle.page_model.specs.declared.page.Reading.{Reading}
use Rattle.page_model.specs.declared.page.Page.{Page}
use Rattle.page_model.specs.declared.event.Outcome.{Outcome}
use Rattle.page_model.specs.Presence.{all_readings, empty_page, page_of_outcome}
use Rattle.otlp_tree.specs.declared.tree.Request.{Request}
use Rattle.otlp_tree.specs.declared.tree.Attribute.{Attribute}
use Rattle.otlp_tree.specs.declared.tree.AttributeValue.TheVariants.{Str, Int}
use Rattle.otlp_tree.specs.declared.tree.ResourceMetrics.{ResourceMetrics}
use Rattle.otlp_tree.specs.declared.tree.Metric.{Metric}
use Rattle.otlp_tree.specs.declared.tree.Shape.TheVariants as shapes
use Rattle.bridge_ports.specs.Targets.{Scraped}
use Rattle.start_times.specs.declared.row.Placed.{Placed}
use Rattle.target_pages.specs.Stretches.{without_info}
use Rattle.target_pages.specs.Outcomes.{up_of}
use Rattle.family_metrics.specs.declared.markers.Marker.{Marker}
use Rattle.family_metrics.specs.Scopes.{target_scope}
use Rattle.scope_metrics.specs.PageScopes.{scope_with, series_scopes}

-- ---- what is said of the scrape

-- a gauge with one point and no labels
unfoldable pub target_gauge : List ℕ → ℕ → ℕ → Metric
target_gauge name time n = record {
  name = name;
  description = [];
  unit = [];
  shape = shapes.Gauge (record { labels = []; start = None; time = time; value = Some (number_of n); exemplars = [] } ∷ []);
}

-- what every event says of its scrape: whether it gave a page, and how many samples the page has
unfoldable pub target_metrics : ℕ → ℕ → ℕ → List Metric
target_metrics moment up samples = target_gauge (codes "up") moment up ∷ target_gauge (codes "scrape_samples_scraped") moment samples ∷ []

-- labels as attributes of a resource
abbrev pub label_attributes : LabelSet → List Attribute
label_attributes labels = map (λ (l : Label). record { key = l.name; value = Str l.value }) labels

-- who was scraped, and where
unfoldable pub own_attributes : Scraped → List Attribute
own_attributes t = record { key = codes "service.name"; value = Str t.job }
    ∷ record { key = codes "service.instance.id"; value = Str t.instance }
    ∷ record { key = codes "server.address"; value = Str t.address.host }
    ∷ record { key = codes "server.port"; value = Int t.address.port }
    ∷ record { key = codes "url.scheme"; value = Str (codes "http") }
    ∷ []

-- who was scraped, and where, and what its pages say of it
unfoldable pub resource_of : Scraped → LabelSet → List Attribute
resource_of t attributes = record { key = codes "service.name"; value = Str t.job }
    ∷ record { key = codes "service.instance.id"; value = Str t.instance }
    ∷ record { key = codes "server.address"; value = Str t.address.host }
    ∷ record { key = codes "server.port"; value = Int t.address.port }
    ∷ record { key = codes "url.scheme"; value = Str (codes "http") }
    ∷ label_attributes attributes

-- ---- the tree

-- the part of series that are gone, under attributes of their target
abbrev pub marked_part : Scraped → LabelSet → List Marker → ResourceMetrics
marked_part target attributes ms = record { resource = resource_of target attributes; scopes = series_scopes (λ r. None) ms empty_page }

-- the part of series that went with the attributes before, left out where none did
abbrev pub gone_part : Scraped → LabelSet → List Marker → List ResourceMetrics
gone_part target attributes [] = []
gone_part target attributes (m ∷ ms) = marked_part target attributes (m ∷ ms) ∷ []

-- the part of a scrape: what its series and its markers give, whether it gave a page, and how many samples that has
abbrev pub own_part : Scraped → LabelSet → (Reading → Option Placed) → List Marker → ℕ → ℕ → Page → ResourceMetrics
own_part target attributes place ms moment up page = record {
  resource = resource_of target attributes;
  scopes = series_scopes place ms page ++ scope_with target_scope (target_metrics moment up page.samples);
}

-- the tree of a scrape: its own part, and behind it the further parts
unfoldable pub request_of : Scraped → LabelSet → (Reading → Option Placed) → List Marker → ℕ → ℕ → Page → List ResourceMetrics → Request
request_of target attributes place ms moment up page further = record { parts = own_part target attributes place ms moment up page ∷ further }

-- the tree of an event; a scrape that failed has the page without families, and what describes the target is no series
abbrev pub request_with : Scraped → LabelSet → (Reading → Option Placed) → List Marker → ℕ → Outcome → List ResourceMetrics → Request
request_with target attributes place ms moment outcome further = request_of target attributes place ms moment (up_of outcome) (without_info (page_of_outcome outcome)) further

-- ---- pages, with the places of their readings

-- where these are the places of the readings of a page, this is the part of its scrape
abbrev pub IsOwnPart : Scraped → LabelSet → List (Option Placed) → List Marker → ℕ → ℕ → Page → ResourceMetrics → Type 0
IsOwnPart target attributes places ms moment up page part = (place : Reading → Option Placed) → places ≡ map place (all_readings page)
    → part ≡ own_part target attributes place ms moment up page

-- where these are the places of the readings of a page, this is the tree of its scrape with these further parts
abbrev pub IsRequest : Scraped → LabelSet → List (Option Placed) → List Marker → ℕ → ℕ → Page → List ResourceMetrics → Request → Type 0
IsRequest target attributes places ms moment up page further tree = (place : Reading → Option Placed) → places ≡ map place (all_readings page)
    → tree ≡ request_of target attributes place ms moment up page further
