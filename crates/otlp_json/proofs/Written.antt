-- The texts of points, exemplars and scopes in the order in which they are emitted.
use Rattle.std.proofs.Common.{◌≡◌, ℕ, List, [], ◌∷◌, ◌++◌, codes, map, Option, append_assoc, arith}
use Rattle.std.proofs.lemmas.Grind.{common_steps}
use Rattle.std.proofs.lemmas.List.Concat.{flat_map-append}
use Rattle.exact_decimal.specs.Literals.{number_json}
use Rattle.label_sets.specs.declared.label_set.LabelSet.{LabelSet}
use Rattle.otlp_tree.specs.declared.tree.ScopeMetrics.{ScopeMetrics}
use Rattle.otlp_tree.specs.declared.tree.Shot.{Shot}
use Rattle.otlp_json.specs.Pieces.{each_before_comma, before_comma, each_behind_comma, behind_comma, point_front, open_point}
use Rattle.otlp_json.specs.Json.{json_string, json_integer, json_array, json_object, member}
use Rattle.otlp_json.specs.Texts.{attributes_member, start_member, value_members, exemplars_member, point_text, filtered_member, id_member, shot_text, text_member, metric_text, scope_text}
use Rattle.otlp_json.proofs.Lists.{with_commas-behind}

-- an object of a point: its attributes, its start, its time and more members
point_object : (attributes start : List (List ℕ)) (time : List ℕ) (value shots : List (List ℕ)) → json_object (attributes ++ start ++ time ∷ [] ++ value ++ shots) ≡ codes "{" ++ (each_before_comma attributes ++ each_before_comma start ++ time) ++ each_behind_comma value ++ each_behind_comma shots ++ codes "}"
point_object attributes start time value shots = grind (arith, common_steps, with_commas-behind (attributes ++ start) time (value ++ shots), flat_map-append before_comma attributes start, flat_map-append behind_comma value shots)

-- a point
pub point_written : {A : Type 0} (members : A → List (List ℕ)) (labels : LabelSet) (start : Option ℕ) (time : ℕ) (value : Option A) (shots : List Shot) → point_text members labels start time value shots ≡ open_point members labels start time value ++ each_behind_comma (exemplars_member shots) ++ codes "}"
unfolding point_text open_point point_front
point_written members labels start time value shots =
    let key = codes "\"timeUnixNano\":" in
    cc (
      point_object (attributes_member labels) (start_member start) (key ++ json_integer time) (value_members members value) (exemplars_member shots),
      append_assoc (each_before_comma (attributes_member labels) ++ each_before_comma (start_member start)) key (json_integer time),
    )

-- an object of an exemplar: its attributes, its time, its value and its ids
shot_object : (attributes : List (List ℕ)) (time value : List ℕ) (span trace : List (List ℕ)) → json_object (attributes ++ time ∷ value ∷ span ++ trace) ≡ codes "{" ++ each_before_comma attributes ++ time ++ (codes "," ++ value) ++ each_behind_comma span ++ each_behind_comma trace ++ codes "}"
shot_object attributes time value span trace = grind (arith, common_steps, with_commas-behind attributes time (value ∷ span ++ trace), flat_map-append behind_comma span trace)

-- an exemplar
pub shot_written : (s : Shot) → shot_text s ≡ codes "{" ++ each_before_comma (filtered_member s.attributes) ++ (codes "\"timeUnixNano\":" ++ json_integer s.time) ++ (codes ",\"asDouble\":" ++ number_json s.value) ++ each_behind_comma (id_member (codes "spanId") 16 s.span) ++ each_behind_comma (id_member (codes "traceId") 32 s.trace) ++ codes "}"
unfolding shot_text
shot_written s = shot_object (filtered_member s.attributes) (member (codes "timeUnixNano") (json_integer s.time)) (member (codes "asDouble") (number_json s.value)) (id_member (codes "spanId") 16 s.span) (id_member (codes "traceId") 32 s.trace)

-- an object of a scope: its name, its version and its metrics
scope_object : (name : List ℕ) (version : List (List ℕ)) (metrics : List ℕ) → json_object (member (codes "scope") (json_object (name ∷ version)) ∷ metrics ∷ []) ≡ codes "{\"scope\":{" ++ name ++ each_behind_comma version ++ codes "}," ++ metrics ++ codes "}"
scope_object name version metrics = grind (arith, common_steps, with_commas-behind [] name version)

-- a scope
pub scope_written : (s : ScopeMetrics) → scope_text s ≡ codes "{\"scope\":{" ++ (codes "\"name\":" ++ json_string s.name) ++ each_behind_comma (text_member (codes "version") s.version) ++ codes "}," ++ (codes "\"metrics\":" ++ json_array (map metric_text s.metrics)) ++ codes "}"
unfolding scope_text
scope_written s = scope_object (member (codes "name") (json_string s.name)) (text_member (codes "version") s.version) (member (codes "metrics") (json_array (map metric_text s.metrics)))
