-- Labels in an array, as they are written one after another.
use Rattle.std.proofs.Common.{◌≡◌, ℕ, ◌-◌, ◌≤◌, List, [], ◌∷◌, ◌++◌, codes, length, map, take, drop, get_or, refl, ap, sym, ◌∙◌, append_assoc, arith}
use Rattle.std.proofs.lemmas.Grind.{common_steps}
use Rattle.std.specs.List.{flat_map}
use Rattle.label_sets.specs.declared.label.Label.{Label}
use Rattle.otlp_json.specs.Json.{json_byte, json_string, json_array}
use Rattle.otlp_json.specs.Pieces.{next_text, open_label, next_label}
use Rattle.otlp_json.specs.Texts.{attribute_value_text, label_text}
use Rattle.otlp_json.proofs.Lists.{array_written}

-- a name and a value with their last quotes, what stands between them, and the braces
ends_joined : (name between value : List ℕ) → name ++ 34 ∷ [] ++ (between ++ (value ++ 34 ∷ [] ++ 125 ∷ [])) ++ 125 ∷ [] ≡ name ++ 34 ∷ between ++ value ++ 34 ∷ 125 ∷ 125 ∷ []
ends_joined name between value = grind (arith, common_steps)

-- what stands around a name and a value
label_written : (l : Label) → label_text l ≡ codes "{\"key\":\"" ++ open_label l ++ codes "\"}}"
unfolding label_text attribute_value_text json_string open_label
label_written l = ap (λ (t : List ℕ). codes "{\"key\":\"" ++ t) (ends_joined (flat_map json_byte l.name) (codes ",\"value\":{\"stringValue\":\"") (flat_map json_byte l.value))

-- an end in front of a text moves behind it, also behind what stands in front
moved_behind : (front end text more : List ℕ) → end ++ text ≡ more ++ end → front ++ end ++ text ≡ front ++ more ++ end
moved_behind front end text more e = append_assoc front end text ∙ ap (λ (t : List ℕ). front ++ t) e ∙ sym (append_assoc front more end)

-- the end of a label moves behind those that follow
end_moved : (ls : List Label) → codes "\"}}" ++ flat_map (next_text label_text) ls ≡ flat_map next_label ls ++ codes "\"}}"
unfolding next_text next_label
end_moved [] = refl
end_moved (l ∷ ls) =
    let rest : List ℕ = flat_map (next_text label_text) ls in
    ap (λ (t : List ℕ). codes "\"}}," ++ (t ++ rest)) (label_written l)
    ∙ ap (λ (t : List ℕ). codes "\"}},{\"key\":\"" ++ t) (moved_behind (open_label l) (codes "\"}}") rest (flat_map next_label ls) (end_moved ls))

-- an array of labels of which there is a first
pub labels_written : (ls : List Label) (l : Label) → 1 ≤ length ls → l ≡ get_or ls 0 l
    → json_array (map label_text ls) ≡ codes "[{\"key\":\"" ++ open_label l ++ flat_map next_label (take (length ls - 1) (drop 1 ls)) ++ codes "\"}}]"
labels_written ls l some is =
    let behind : List Label = take (length ls - 1) (drop 1 ls) in
    let rest : List ℕ = flat_map (next_text label_text) behind in
    let more : List ℕ = flat_map next_label behind in
    array_written label_text ls l some is
    ∙ ap (λ (t : List ℕ). codes "[" ++ t ++ rest ++ codes "]") (label_written l)
    ∙ ap (λ (t : List ℕ). codes "[{\"key\":\"" ++ (t ++ codes "]")) (moved_behind (open_label l) (codes "\"}}") rest more (end_moved behind))
    ∙ ap (λ (t : List ℕ). codes "[{\"key\":\"" ++ t) (append_assoc (open_label l ++ more) (codes "\"}}") (codes "]"))
