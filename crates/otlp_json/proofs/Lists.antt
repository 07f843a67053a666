-- Arrays and objects in the order in which they are written.
use Rattle.std.proofs.Common.{◌≡◌, ℕ, ◌-◌, ◌≤◌, false, List, [], ◌∷◌, ◌++◌, ◌==◌, codes, length, map, take, drop, get_or, refl, ap, arith}
use Rattle.std.proofs.lemmas.Grind.{common_steps}
use Rattle.std.specs.List.{flat_map}
use Rattle.otlp_json.specs.Pieces.{next_text, each_before_comma, each_behind_comma}
use Rattle.otlp_json.specs.Json.{json_array, with_commas, member, member_if, has_some}

-- texts with commas are the first, and each next one behind a comma
with_commas-map : {A : Type 0} (text : A → List ℕ) (x : A) (xs : List A) → with_commas (map text (x ∷ xs)) ≡ text x ++ flat_map (next_text text) xs
unfolding next_text
with_commas-map text x [] = grind (arith, common_steps)
with_commas-map text x (y ∷ ys) = ap (λ (l : List ℕ). text x ++ (44 ∷ l)) (with_commas-map text y ys)

-- a list that has an element is that and the rest
first_and_rest : {A : Type 0} (xs : List A) (x : A) → 1 ≤ length xs → x ≡ get_or xs 0 x → xs ≡ x ∷ take (length xs - 1) (drop 1 xs)
first_and_rest [] x some is = absurd (omega arith)
first_and_rest (y ∷ ys) x some is = grind (arith, common_steps)

-- an array with an element
pub array_written : {A : Type 0} (text : A → List ℕ) (xs : List A) (x : A) → 1 ≤ length xs → x ≡ get_or xs 0 x → json_array (map text xs) ≡ codes "[" ++ text x ++ flat_map (next_text text) (take (length xs - 1) (drop 1 xs)) ++ codes "]"
unfolding json_array
array_written text xs x some is =
    let rest = take (length xs - 1) (drop 1 xs) in
    let e : map text xs ≡ map text (x ∷ rest) = ap (map text) (first_and_rest xs x some is) in
    cc (with_commas-map text x rest)

-- a member that is there where a list has an element
pub member_if_some : {A : Type 0} (xs : List A) (key text : List ℕ) → (length xs == 0) ≡ false → each_before_comma (member_if (has_some xs) key text) ≡ member key text ++ codes ","
member_if_some [] key text some = cc
member_if_some (x ∷ xs) key text some = grind (arith, common_steps)

-- the same, where it stands behind another one
pub member_if_more : {A : Type 0} (xs : List A) (key text : List ℕ) → (length xs == 0) ≡ false → each_behind_comma (member_if (has_some xs) key text) ≡ codes "," ++ member key text
member_if_more [] key text some = cc
member_if_more (x ∷ xs) key text some = grind (arith, common_steps)

-- members with commas are those in front, each with a comma behind it, and the last
pub with_commas-last : (members : List (List ℕ)) (last : List ℕ) → with_commas (members ++ last ∷ []) ≡ each_before_comma members ++ last
with_commas-last [] last = refl
with_commas-last (m ∷ []) last = grind (arith, common_steps)
with_commas-last (m ∷ n ∷ ms) last = grind (arith, common_steps, with_commas-last (n ∷ ms) last)

-- members with commas are those in front, each with a comma behind it, one, and those behind it
pub with_commas-behind : (members : List (List ℕ)) (one : List ℕ) (more : List (List ℕ)) → with_commas (members ++ one ∷ [] ++ more) ≡ each_before_comma members ++ one ++ each_behind_comma more
with_commas-behind [] one [] = grind (arith, common_steps)
with_commas-behind [] one (m ∷ ms) = ap (λ (l : List ℕ). one ++ (44 ∷ l)) (with_commas-behind [] m ms)
with_commas-behind (m ∷ []) one more = grind (arith, common_steps, with_commas-behind [] one more)
with_commas-behind (m ∷ n ∷ ms) one more = grind (arith, common_steps, with_commas-behind (n ∷ ms) one more)
