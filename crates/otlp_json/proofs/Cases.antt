-- Worked texts: the definitions compute them.
use Rattle.std.proofs.Common.{◌≡◌, [], ◌∷◌, ◌++◌, ◌-◌, ◌^◌, ℕ, true, false, codes, Option, Some, None, refl}
use Rattle.std.specs.Fmt.{digits}
use Rattle.exact_decimal.specs.declared.number.Number.{Number}
use Rattle.exact_decimal.specs.declared.number.Number.TheVariants.{Finite, NotANumber}
use Rattle.exact_decimal.specs.Decimals.{DecimalValue}
use Rattle.exact_decimal.specs.Literals.{sign_text, pointed, plain_text, is_plain, size_text, decimal_text, number_json}
use Rattle.label_sets.specs.declared.label_set.LabelSet.{LabelSet}
use Rattle.otlp_tree.specs.declared.tree.AttributeValue.TheVariants.{Str, Int}
use Rattle.otlp_tree.specs.declared.tree.NumberPoint.{NumberPoint}
use Rattle.otlp_tree.specs.declared.tree.Shape.TheVariants as shapes
use Rattle.otlp_tree.specs.declared.tree.Shot.{Shot}
use Rattle.page_model.specs.declared.page.Quantile.{Quantile}
use Rattle.otlp_json.specs.Json.{json_string, json_integer, json_array}
use Rattle.otlp_json.specs.Texts.{attribute_value_text, attribute_text, label_text, attributes_member, start_member, hex_text, id_member, filtered_member, shot_text, exemplars_member, point_text, number_members, number_point_text, known_sum_member, observation_members, histogram_point_text, quantile_text, quantile_members, summary_point_text, gauge_member, sum_member, histogram_member, summary_member, shape_member, metric_text, scope_text, resource_text, request_text}

-- a line feed, a quote, two backslashes, a letter of two bytes, DEL and a control character
escapes : json_string (112 ∷ 10 ∷ 34 ∷ 92 ∷ 92 ∷ 113 ∷ 195 ∷ 169 ∷ 127 ∷ 31 ∷ []) ≡ codes "\"p\\u000a\\\"\\\\\\\\q" ++ 195 ∷ 169 ∷ 127 ∷ codes "\\u001f\""
unfolding json_string json_array
escapes = refl

-- a point of a gauge, up to its number
gauge_point : (n : Number) → number_point_text (record { labels = []; start = None; time = 1000; value = Some n; exemplars = [] })
    ≡ codes "{\"timeUnixNano\":\"1000\",\"asDouble\":" ++ number_json n ++ codes "}"
unfolding number_point_text attributes_member start_member number_members json_integer digits json_array point_text exemplars_member
gauge_point n = refl

-- a point of a counter, up to its number
counter_point : (n : Number) → number_point_text (record { labels = []; start = Some 30; time = 30; value = Some n; exemplars = [] })
    ≡ codes "{\"startTimeUnixNano\":\"30\",\"timeUnixNano\":\"30\",\"asDouble\":" ++ number_json n ++ codes "}"
unfolding number_point_text attributes_member start_member number_members json_integer digits json_array point_text exemplars_member
counter_point n = refl

-- a point without a value
marker : number_point_text (record { labels = []; start = Some 10; time = 20; value = None; exemplars = [] })
    ≡ codes "{\"startTimeUnixNano\":\"10\",\"timeUnixNano\":\"20\",\"flags\":1}"
unfolding number_point_text attributes_member start_member number_members json_integer digits json_array point_text exemplars_member
marker = refl

-- a point without a value
abbrev no_value : LabelSet → NumberPoint
no_value labels = record { labels = labels; start = None; time = 20; value = None; exemplars = [] }

-- a metric without a description and a unit
gauge_metric : metric_text (record { name = codes "q"; description = []; unit = []; shape = shapes.Gauge (no_value [] ∷ []) })
    ≡ codes "{\"name\":\"q\",\"gauge\":{\"dataPoints\":[{\"timeUnixNano\":\"20\",\"flags\":1}]}}"
unfolding metric_text shape_member gauge_member number_point_text attributes_member start_member number_members json_string json_integer digits json_array point_text exemplars_member
gauge_metric = refl

-- a metric with both, and two points
sum_metric : metric_text (record {
  name = codes "q";
  description = codes "what";
  unit = codes "By";
  shape = shapes.Sum (no_value (record { name = codes "a"; value = codes "1" } ∷ record { name = codes "b"; value = codes "2" } ∷ []) ∷ no_value [] ∷ []) false;
})
    ≡ codes "{\"name\":\"q\",\"description\":\"what\",\"unit\":\"By\",\"sum\":{\"dataPoints\":[{\"attributes\":[{\"key\":\"a\",\"value\":{\"stringValue\":\"1\"}},{\"key\":\"b\",\"value\":{\"stringValue\":\"2\"}}],\"timeUnixNano\":\"20\",\"flags\":1},{\"timeUnixNano\":\"20\",\"flags\":1}],\"aggregationTemporality\":2,\"isMonotonic\":false}}"
unfolding metric_text shape_member sum_member number_point_text label_text attribute_value_text attributes_member start_member number_members json_string json_integer digits json_array point_text exemplars_member
sum_metric = refl

-- digits divided by a power of ten
abbrev divided : ℕ → ℕ → DecimalValue
divided digits down = record { negative = false; digits = digits; up = 0; down = down }

-- a histogram with a sum
histogram_metric : metric_text (record {
  name = codes "h";
  description = [];
  unit = [];
  shape = shapes.Histogram (record {
    labels = [];
    start = 1000;
    time = 1000;
    value = Some (record { layout = record { bounds = divided 1 1 ∷ divided 1 0 ∷ []; counts = 2 ∷ 3 ∷ 0 ∷ []; count = 5 }; sum = Some (Finite (divided 15 1)) });
    exemplars = [];
  } ∷ []);
})
    ≡ codes "{\"name\":\"h\",\"histogram\":{\"dataPoints\":[{\"startTimeUnixNano\":\"1000\",\"timeUnixNano\":\"1000\",\"count\":\"5\",\"sum\":1.5,\"bucketCounts\":[\"2\",\"3\",\"0\"],\"explicitBounds\":[0.1,1]}],\"aggregationTemporality\":2}}"
unfolding metric_text shape_member histogram_member histogram_point_text observation_members known_sum_member attributes_member start_member json_string json_integer digits number_json decimal_text size_text is_plain plain_text pointed sign_text json_array point_text exemplars_member
histogram_metric = refl

-- a histogram without a sum and with one bucket
histogram_point : histogram_point_text (record { labels = []; start = 1000; time = 1000; value = Some (record { layout = record { bounds = []; counts = 1 ∷ []; count = 1 }; sum = None }); exemplars = [] })
    ≡ codes "{\"startTimeUnixNano\":\"1000\",\"timeUnixNano\":\"1000\",\"count\":\"1\",\"bucketCounts\":[\"1\"],\"explicitBounds\":[]}"
unfolding histogram_point_text observation_members known_sum_member attributes_member start_member json_integer digits json_array point_text exemplars_member
histogram_point = refl

-- a histogram that has no value any more
histogram_marker : histogram_point_text (record { labels = []; start = 10; time = 20; value = None; exemplars = [] })
    ≡ codes "{\"startTimeUnixNano\":\"10\",\"timeUnixNano\":\"20\",\"flags\":1}"
unfolding histogram_point_text attributes_member start_member json_integer digits json_array point_text exemplars_member
histogram_marker = refl

-- a quantile without a value
abbrev no_quantile : ℕ → ℕ → Quantile
no_quantile digits down = record { at = divided digits down; value = NotANumber }

-- a summary without observations
summary_metric : metric_text (record {
  name = codes "s";
  description = codes "d";
  unit = [];
  shape = shapes.Summary (record {
    labels = [];
    start = 1000;
    time = 1000;
    value = Some (record { count = 0; sum = Finite (divided 0 0); quantiles = no_quantile 5 1 ∷ no_quantile 9 1 ∷ no_quantile 99 2 ∷ [] });
  } ∷ []);
})
    ≡ codes "{\"name\":\"s\",\"description\":\"d\",\"summary\":{\"dataPoints\":[{\"startTimeUnixNano\":\"1000\",\"timeUnixNano\":\"1000\",\"count\":\"0\",\"sum\":0,\"quantileValues\":[{\"quantile\":0.5,\"value\":\"NaN\"},{\"quantile\":0.9,\"value\":\"NaN\"},{\"quantile\":0.99,\"value\":\"NaN\"}]}]}}"
unfolding metric_text shape_member summary_member summary_point_text quantile_members quantile_text attributes_member start_member json_string json_integer digits number_json decimal_text size_text is_plain plain_text pointed sign_text json_array point_text exemplars_member
summary_metric = refl

-- a summary that has no value any more
summary_marker : summary_point_text (record { labels = []; start = 10; time = 20; value = None })
    ≡ codes "{\"startTimeUnixNano\":\"10\",\"timeUnixNano\":\"20\",\"flags\":1}"
unfolding summary_point_text attributes_member start_member json_integer digits json_array point_text exemplars_member
summary_marker = refl

-- a whole request, its numbers left out
whole : request_text (record {
  parts = record {
    resource = record { key = codes "service.name"; value = Str (codes "j") } ∷ record { key = codes "server.port"; value = Int 1 } ∷ [];
    scopes = record { name = codes "bridge"; version = []; metrics = record { name = codes "q"; description = []; unit = []; shape = shapes.Sum [] true } ∷ [] }
        ∷ record { name = codes "bridge.target"; version = []; metrics = [] } ∷ [];
  } ∷ [];
})
    ≡ codes "{\"resourceMetrics\":[{\"resource\":{\"attributes\":[{\"key\":\"service.name\",\"value\":{\"stringValue\":\"j\"}},{\"key\":\"server.port\",\"value\":{\"intValue\":\"1\"}}]},\"scopeMetrics\":[{\"scope\":{\"name\":\"bridge\"},\"metrics\":[{\"name\":\"q\",\"sum\":{\"dataPoints\":[],\"aggregationTemporality\":2,\"isMonotonic\":true}}]},{\"scope\":{\"name\":\"bridge.target\"},\"metrics\":[]}]}]}"
unfolding request_text resource_text scope_text metric_text shape_member sum_member attribute_text attribute_value_text json_string json_integer digits json_array
whole = refl

-- two resources, the second without attributes
two_parts : request_text (record {
  parts = record { resource = record { key = codes "v"; value = Int 2 } ∷ []; scopes = [] }
      ∷ record { resource = []; scopes = record { name = codes "bridge"; version = []; metrics = [] } ∷ [] } ∷ [];
})
    ≡ codes "{\"resourceMetrics\":[{\"resource\":{\"attributes\":[{\"key\":\"v\",\"value\":{\"intValue\":\"2\"}}]},\"scopeMetrics\":[]},{\"resource\":{\"attributes\":[]},\"scopeMetrics\":[{\"scope\":{\"name\":\"bridge\"},\"metrics\":[]}]}]}"
unfolding request_text resource_text scope_text attribute_text attribute_value_text json_string json_integer digits json_array
two_parts = refl

-- a request of nothing
no_parts : request_text (record { parts = [] }) ≡ codes "{\"resourceMetrics\":[]}"
unfolding request_text json_array
no_parts = refl

-- a scope with a version
versioned_scope : scope_text (record { name = codes "lib"; version = codes "1.2"; metrics = [] })
    ≡ codes "{\"scope\":{\"name\":\"lib\",\"version\":\"1.2\"},\"metrics\":[]}"
unfolding scope_text json_string json_array
versioned_scope = refl

-- the id of a trace with all digits
trace_digits : hex_text 32 0x0123456789abcdef0123456789abcdef ≡ codes "0123456789abcdef0123456789abcdef"
unfolding hex_text digits
trace_digits = refl

-- the greatest id of a trace, and the least
trace_ends : (hex_text 32 (2 ^ 128 - 1) ≡ codes "ffffffffffffffffffffffffffffffff") × (hex_text 32 1 ≡ codes "00000000000000000000000000000001")
unfolding hex_text digits
trace_ends = (refl, refl)

-- the id of a span with zeros in front and behind
span_digits : hex_text 16 0xb7ad6b716920330 ≡ codes "0b7ad6b716920330"
unfolding hex_text digits
span_digits = refl

-- an exemplar at a time, with what more it has
abbrev shot : LabelSet → Option ℕ → Option ℕ → Shot
shot attributes trace span = record { attributes = attributes; time = 7; value = NotANumber; trace = trace; span = span }

-- a point of a counter with two exemplars: one with a label and both ids, one with neither
exemplars_of_point : number_point_text (record { labels = []; start = Some 10; time = 20; value = None; exemplars = shot (record { name = codes "a"; value = codes "1" } ∷ []) (Some 26) (Some 10) ∷ shot [] None None ∷ [] })
    ≡ codes "{\"startTimeUnixNano\":\"10\",\"timeUnixNano\":\"20\",\"flags\":1,\"exemplars\":[{\"filteredAttributes\":[{\"key\":\"a\",\"value\":{\"stringValue\":\"1\"}}],\"timeUnixNano\":\"7\",\"asDouble\":\"NaN\",\"spanId\":\"000000000000000a\",\"traceId\":\"0000000000000000000000000000001a\"},{\"timeUnixNano\":\"7\",\"asDouble\":\"NaN\"}]}"
unfolding number_point_text attributes_member start_member number_members exemplars_member shot_text filtered_member id_member hex_text label_text attribute_value_text number_json json_string json_integer digits json_array point_text
exemplars_of_point = refl

-- a point of a histogram with an exemplar
exemplar_of_histogram : histogram_point_text (record { labels = []; start = 10; time = 20; value = Some (record { layout = record { bounds = []; counts = 1 ∷ []; count = 1 }; sum = None }); exemplars = record { attributes = []; time = 15; value = NotANumber; trace = None; span = Some 255 } ∷ [] })
    ≡ codes "{\"startTimeUnixNano\":\"10\",\"timeUnixNano\":\"20\",\"count\":\"1\",\"bucketCounts\":[\"1\"],\"explicitBounds\":[],\"exemplars\":[{\"timeUnixNano\":\"15\",\"asDouble\":\"NaN\",\"spanId\":\"00000000000000ff\"}]}"
unfolding histogram_point_text observation_members known_sum_member attributes_member start_member exemplars_member shot_text filtered_member id_member hex_text number_json json_integer digits json_array point_text
exemplar_of_histogram = refl
