-- Which of many families found one of the page. Lists of earlier families have the nearest first.
-- OpenMetrics 1.0, "MetricFamily" (one family of each name, without clashes of sample names); the bridge's own where two clash: the first stays.
use Rattle.std.specs.Prelude.{Bool, List, [], ◌∷◌, ◌++◌, map, reverse, filter, fold, Option, if◌then◌else◌}
use Rattle.std.specs.List.{list_any}
use Rattle.std.specs.Option.{option_map_or}
use Rattle.label_sets.specs.Labels.{name_before}
use Rattle.page_model.specs.declared.page.Family.{Family}
use Rattle.open_writing.specs.FamilyKeys.{FamilyKey, family_key, clash, is_one_family}

-- the families that found one of the page: each that clashes with none that did so above it
unfoldable pub founders : {A : Type 0} → (A → FamilyKey) → List A → List A
founders key [] = []
founders key (x ∷ above) = if list_any (λ y. clash (key y) (key x)) (founders key above) then founders key above else x ∷ founders key above

-- in its place among families that stand in byte order of their names
abbrev pub placed_by_name : {A : Type 0} → (A → FamilyKey) → A → List A → List A
placed_by_name key x [] = x ∷ []
placed_by_name key x (y ∷ ys) = let j = key x in let k = key y in if name_before j.name k.name then x ∷ y ∷ ys else y ∷ placed_by_name key x ys

-- in byte order of their names
abbrev pub sorted_by_name : {A : Type 0} → (A → FamilyKey) → List A → List A
sorted_by_name key [] = []
sorted_by_name key (x ∷ xs) = placed_by_name key x (sorted_by_name key xs)

-- the families of the page, in byte order of their names, each with all that are one with it, in their order
unfoldable pub gathered_by : {A B : Type 0} → (A → FamilyKey) → (A → List A → B) → List A → List B
gathered_by key make xs = map (λ x. make x (filter (λ y. is_one_family (key x) (key y)) xs)) (sorted_by_name key (founders key (reverse xs)))

-- ---- one candidate after another

-- a family with the readings of this candidate behind its own, where both are one
abbrev pub joined_by : Family → Family → Family
joined_by c f = if is_one_family (family_key f) (family_key c) then record f { readings = f.readings ++ c.readings } else f

-- some family clashes with this one
abbrev pub meets : List Family → FamilyKey → Bool
meets fs k = list_any (λ f. clash (family_key f) k) fs

-- the families so far, in the order in which they were founded, with one candidate more
abbrev pub with_candidate : List Family → Family → List Family
with_candidate fs c = if meets fs (family_key c) then map (joined_by c) fs else fs ++ c ∷ []

-- with many candidates more, one after another
abbrev pub with_candidates : List Family → List Family → List Family
with_candidates fs cs = fold with_candidate fs cs

-- with one more, where there is one
abbrev pub with_option : List Family → Option Family → List Family
with_option fs candidate = option_map_or (with_candidate fs) candidate fs
