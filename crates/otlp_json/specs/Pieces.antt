-- Parts of arrays and objects with their commas, as they are written one after another.
-- JSON (RFC 8259), sections 4 and 5 (value-separator); the bridge's own where it splits a text.
use Rattle.std.specs.Prelude.{ℕ, List, ◌++◌, codes, Option}
use Rattle.std.specs.List.{flat_map}
use Rattle.label_sets.specs.declared.label.Label.{Label}
use Rattle.label_sets.specs.declared.label_set.LabelSet.{LabelSet}
use Rattle.otlp_json.specs.Json.{json_byte, json_integer}
use Rattle.otlp_json.specs.Texts.{attributes_member, start_member, value_members}

-- a text with a comma in front, as each but the first of a list has it
unfoldable pub next_text : {A : Type 0} → (A → List ℕ) → A → List ℕ
next_text text x = codes "," ++ text x

-- a text with a comma behind, as each but the last of a list has it
abbrev pub before_comma : List ℕ → List ℕ
before_comma text = text ++ codes ","

-- the members in front of another one
abbrev pub each_before_comma : List (List ℕ) → List ℕ
each_before_comma members = flat_map before_comma members

-- a text with a comma in front
abbrev pub behind_comma : List ℕ → List ℕ
behind_comma text = codes "," ++ text

-- the members behind another one
abbrev pub each_behind_comma : List (List ℕ) → List ℕ
each_behind_comma members = flat_map behind_comma members

-- a label from the front of its name to the end of its value, without the quotes around both
unfoldable pub open_label : Label → List ℕ
open_label l = flat_map json_byte l.name ++ codes "\",\"value\":{\"stringValue\":\"" ++ flat_map json_byte l.value

-- a label behind another one, from the end of the value of that
unfoldable pub next_label : Label → List ℕ
next_label l = codes "\"}},{\"key\":\"" ++ open_label l

-- a point from its first member up to its time
unfoldable pub point_front : LabelSet → Option ℕ → ℕ → List ℕ
point_front labels start time = each_before_comma (attributes_member labels) ++ each_before_comma (start_member start) ++ codes "\"timeUnixNano\":" ++ json_integer time

-- a point of any kind up to the members of its value
unfoldable pub open_point : {A : Type 0} → (A → List (List ℕ)) → LabelSet → Option ℕ → ℕ → Option A → List ℕ
open_point members labels start time value = codes "{" ++ point_front labels start time ++ each_behind_comma (value_members members value)
