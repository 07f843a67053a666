-- The text of an export request, by recursion on its tree.
-- OTLP 1.x, "JSON Protobuf Encoding" (ExportMetricsServiceRequest, ResourceMetrics, ScopeMetrics, Metric and its data points).
-- The order of the members, and which are left out where they are empty, are the bridge's own.
use Rattle.std.specs.Prelude.{ℕ, ◌-◌, Bool, true, false, List, [], ◌∷◌, ◌++◌, map, length, codes, Option, Some, None}
use Rattle.std.specs.List.{repeat}
use Rattle.std.specs.Fmt.{digits}
use Rattle.exact_decimal.specs.declared.number.Number.{Number}
use Rattle.exact_decimal.specs.Literals.{decimal_text, number_json}
use Rattle.label_sets.specs.declared.label.Label.{Label}
use Rattle.label_sets.specs.declared.label_set.LabelSet.{LabelSet}
use Rattle.otlp_tree.specs.declared.tree.Request.{Request}
use Rattle.otlp_tree.specs.declared.tree.Attribute.{Attribute}
use Rattle.otlp_tree.specs.declared.tree.AttributeValue.{AttributeValue}
use Rattle.otlp_tree.specs.declared.tree.AttributeValue.TheVariants.{Str, Int}
use Rattle.otlp_tree.specs.declared.tree.ResourceMetrics.{ResourceMetrics}
use Rattle.otlp_tree.specs.declared.tree.Shot.{Shot}
use Rattle.otlp_tree.specs.declared.tree.ScopeMetrics.{ScopeMetrics}
use Rattle.otlp_tree.specs.declared.tree.Metric.{Metric}
use Rattle.otlp_tree.specs.declared.tree.Shape.{Shape}
use Rattle.otlp_tree.specs.declared.tree.Shape.TheVariants as shapes
use Rattle.otlp_tree.specs.declared.tree.NumberPoint.{NumberPoint}
use Rattle.otlp_tree.specs.declared.tree.HistogramPoint.{HistogramPoint}
use Rattle.otlp_tree.specs.declared.tree.HistogramValue.{HistogramValue}
use Rattle.otlp_tree.specs.declared.tree.SummaryPoint.{SummaryPoint}
use Rattle.otlp_tree.specs.declared.tree.SummaryValue.{SummaryValue}
use Rattle.page_model.specs.declared.page.Quantile.{Quantile}
use Rattle.otlp_json.specs.Json.{json_string, json_integer, json_array, json_object, member, member_if, has_some}

-- ---- attributes

-- an attribute's value, a string or an integer (AnyValue)
unfoldable pub attribute_value_text : AttributeValue → List ℕ
attribute_value_text (Str text) = json_object (member (codes "stringValue") (json_string text) ∷ [])
attribute_value_text (Int n) = json_object (member (codes "intValue") (json_integer n) ∷ [])

-- a key and its value (KeyValue)
abbrev pub key_value_text : List ℕ → AttributeValue → List ℕ
key_value_text key value = json_object (member (codes "key") (json_string key) ∷ member (codes "value") (attribute_value_text value) ∷ [])

-- an attribute of a resource
unfoldable pub attribute_text : Attribute → List ℕ
attribute_text a = key_value_text a.key a.value

-- a label as an attribute with a string
unfoldable pub label_text : Label → List ℕ
label_text l = key_value_text l.name (Str l.value)

-- ---- points

-- labels as attributes under this key, left out where there are none
abbrev pub labels_member : List ℕ → LabelSet → List (List ℕ)
labels_member key labels = member_if (has_some labels) key (json_array (map label_text labels))

-- the attributes of a point
unfoldable pub attributes_member : LabelSet → List (List ℕ)
attributes_member labels = labels_member (codes "attributes") labels

-- the start of a point, left out where it has none
unfoldable pub start_member : Option ℕ → List (List ℕ)
start_member None = []
start_member (Some start) = member (codes "startTimeUnixNano") (json_integer start) ∷ []

-- what stands in front of the value of a point of any kind
abbrev pub point_head : LabelSet → Option ℕ → ℕ → List (List ℕ)
point_head labels start time = attributes_member labels ++ start_member start ++ member (codes "timeUnixNano") (json_integer time) ∷ []

-- the flag of a point without a value (DataPointFlags: NO_RECORDED_VALUE)
abbrev pub no_value_member : List ℕ
no_value_member = member (codes "flags") (codes "1")

-- the members of a point's value, or the flag
abbrev pub value_members : {A : Type 0} → (A → List (List ℕ)) → Option A → List (List ℕ)
value_members members None = no_value_member ∷ []
value_members members (Some v) = members v

-- a number in lower-case hexadecimal digits, with zeros in front up to so many places
unfoldable pub hex_text : ℕ → ℕ → List ℕ
hex_text places n = repeat (places - length (digits 16 false n)) (48 ∷ []) ++ digits 16 false n

-- an id of so many hexadecimal digits, left out where there is none
unfoldable pub id_member : List ℕ → ℕ → Option ℕ → List (List ℕ)
id_member key places None = []
id_member key places (Some n) = member key (codes "\"" ++ hex_text places n ++ codes "\"") ∷ []

-- the attributes of an exemplar
unfoldable pub filtered_member : LabelSet → List (List ℕ)
filtered_member labels = labels_member (codes "filteredAttributes") labels

-- an exemplar (Exemplar)
unfoldable pub shot_text : Shot → List ℕ
shot_text s = json_object (
    filtered_member s.attributes
    ++ member (codes "timeUnixNano") (json_integer s.time)
    ∷ member (codes "asDouble") (number_json s.value)
    ∷ id_member (codes "spanId") 16 s.span
    ++ id_member (codes "traceId") 32 s.trace)

-- the exemplars of a point, left out where it has none
unfoldable pub exemplars_member : List Shot → List (List ℕ)
exemplars_member shots = member_if (has_some shots) (codes "exemplars") (json_array (map shot_text shots))

-- a point of any kind, by the members of its value, and its exemplars behind them
unfoldable pub point_text : {A : Type 0} → (A → List (List ℕ)) → LabelSet → Option ℕ → ℕ → Option A → List Shot → List ℕ
point_text members labels start time value shots = json_object (point_head labels start time ++ value_members members value ++ exemplars_member shots)

-- the value of a number point
unfoldable pub number_members : Number → List (List ℕ)
number_members n = member (codes "asDouble") (number_json n) ∷ []

-- a number point (NumberDataPoint)
unfoldable pub number_point_text : NumberPoint → List ℕ
number_point_text p = point_text number_members p.labels p.start p.time p.value p.exemplars

-- the sum of a histogram's observations, left out where it isn't known
unfoldable pub known_sum_member : Option Number → List (List ℕ)
known_sum_member None = []
known_sum_member (Some n) = member (codes "sum") (number_json n) ∷ []

-- the observations of a histogram: all of them, their sum, those between the bounds, and the bounds
unfoldable pub observation_members : HistogramValue → List (List ℕ)
observation_members v =
    member (codes "count") (json_integer v.layout.count)
    ∷ known_sum_member v.sum
    ++ member (codes "bucketCounts") (json_array (map json_integer v.layout.counts))
    ∷ member (codes "explicitBounds") (json_array (map decimal_text v.layout.bounds)) ∷ []

-- a histogram point (HistogramDataPoint)
unfoldable pub histogram_point_text : HistogramPoint → List ℕ
histogram_point_text p = point_text observation_members p.labels (Some p.start) p.time p.value p.exemplars

-- a quantile and its value (ValueAtQuantile)
unfoldable pub quantile_text : Quantile → List ℕ
quantile_text q = json_object (member (codes "quantile") (decimal_text q.at) ∷ member (codes "value") (number_json q.value) ∷ [])

-- how many observations a summary has, their sum, and the quantiles
unfoldable pub quantile_members : SummaryValue → List (List ℕ)
quantile_members v =
    member (codes "count") (json_integer v.count)
    ∷ member (codes "sum") (number_json v.sum)
    ∷ member (codes "quantileValues") (json_array (map quantile_text v.quantiles)) ∷ []

-- a summary point (SummaryDataPoint)
unfoldable pub summary_point_text : SummaryPoint → List ℕ
summary_point_text p = point_text quantile_members p.labels (Some p.start) p.time p.value []

-- ---- metrics, scopes and the whole

-- the points of a metric
abbrev pub points_member : List (List ℕ) → List ℕ
points_member points = member (codes "dataPoints") (json_array points)

-- each point counts from its start (AggregationTemporality: CUMULATIVE)
abbrev pub cumulative_member : List ℕ
cumulative_member = member (codes "aggregationTemporality") (codes "2")

-- a truth value
abbrev pub truth_text : Bool → List ℕ
truth_text true = codes "true"
truth_text false = codes "false"

-- the points of a gauge (Gauge)
unfoldable pub gauge_member : List NumberPoint → List ℕ
gauge_member points = member (codes "gauge") (json_object (points_member (map number_point_text points) ∷ []))

-- the points of a sum (Sum)
unfoldable pub sum_member : List NumberPoint → Bool → List ℕ
sum_member points monotonic = member (codes "sum") (json_object (
    points_member (map number_point_text points) ∷ cumulative_member ∷ member (codes "isMonotonic") (truth_text monotonic) ∷ []))

-- the points of a histogram (Histogram)
unfoldable pub histogram_member : List HistogramPoint → List ℕ
histogram_member points = member (codes "histogram") (json_object (points_member (map histogram_point_text points) ∷ cumulative_member ∷ []))

-- the points of a summary (Summary)
unfoldable pub summary_member : List SummaryPoint → List ℕ
summary_member points = member (codes "summary") (json_object (points_member (map summary_point_text points) ∷ []))

-- the one member that holds a metric's points
unfoldable pub shape_member : Shape → List ℕ
shape_member (shapes.Gauge points) = gauge_member points
shape_member (shapes.Sum points monotonic) = sum_member points monotonic
shape_member (shapes.Histogram points) = histogram_member points
shape_member (shapes.Summary points) = summary_member points

-- a text that is left out where it is empty
abbrev pub text_member : List ℕ → List ℕ → List (List ℕ)
text_member key text = member_if (has_some text) key (json_string text)

-- a metric (Metric)
unfoldable pub metric_text : Metric → List ℕ
metric_text m = json_object (
    member (codes "name") (json_string m.name)
    ∷ text_member (codes "description") m.description
    ++ text_member (codes "unit") m.unit
    ++ shape_member m.shape ∷ [])

-- a scope with its metrics (ScopeMetrics)
unfoldable pub scope_text : ScopeMetrics → List ℕ
scope_text s = json_object (
    member (codes "scope") (json_object (member (codes "name") (json_string s.name) ∷ text_member (codes "version") s.version))
    ∷ member (codes "metrics") (json_array (map metric_text s.metrics)) ∷ [])

-- a resource with its scopes (ResourceMetrics)
unfoldable pub resource_text : ResourceMetrics → List ℕ
resource_text part = json_object (
    member (codes "resource") (json_object (member (codes "attributes") (json_array (map attribute_text part.resource)) ∷ []))
    ∷ member (codes "scopeMetrics") (json_array (map scope_text part.scopes)) ∷ [])

-- an export request (ExportMetricsServiceRequest)
unfoldable pub request_text : Request → List ℕ
request_text r = json_object (member (codes "resourceMetrics") (json_array (map resource_text r.parts)) ∷ [])
