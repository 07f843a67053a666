-- The federation page has at most twice as many sample lines as the pages of which it is gathered have samples.
use Rattle.std.proofs.Common.{◌≡◌, ℕ, ◌+◌, ◌*◌, ◌≤◌, Bool, true, false, cond, ◌&&◌, List, [], ◌∷◌, map, filter, filter_map, reverse, length, Option, Some, None, refl, sym, ap, ◌∙◌, arith}
use Rattle.std.specs.List.{flat_map, cons_option, AllByRecursion, IsDistinct}
use Rattle.std.specs.Str.{bytes_eq}
use Rattle.std.specs.Cmp.Lexicographic.{bytes_decides}
use Rattle.std.proofs.lemmas.Bool.{and_parts}
use Rattle.std.proofs.lemmas.List.Elements.{recursion_from_All}
use Rattle.label_sets.specs.declared.kind.Kind.{Kind}
use Rattle.label_sets.specs.Keys.{kind_eq}
use Rattle.page_model.specs.declared.page.Reading.{Reading}
use Rattle.page_model.specs.declared.page.Family.{Family}
use Rattle.page_model.specs.declared.event.Shown.{Shown}
use Rattle.open_writing.specs.FamilyKeys.{family_key, is_one_family}
use Rattle.open_writing.specs.Pieces.{reading_lines, family_lines}
use Rattle.open_writing.proofs.Laws.{families_counted}
use Rattle.writing_laws.proofs.Laws.{total, total_is, total-le, total-append, total-twice, total-map, at_most_one, same_bytes, few_lines, total_filtered}
use Rattle.federation_page.specs.Candidates.{is_left_out, stays, federated_kind, federated_name, federated_reading, renamed_family, candidate_of, candidates_of}
use Rattle.federation_page.specs.Conflicts.{founders, sorted_by_name, gathered_by}
use Rattle.federation_page.specs.Gathering.{with_readings_of, gathered_families, federated_page, IsShowable}
use Rattle.federation_page.specs.Laws.{GatheredAreFew}
use Rattle.federation_page.proofs.Founders.{founders_apart, sorted_apart, names_apart}

-- ---- candidates

-- the lines of a family, where there is one
abbrev lines_of_some : Option Family → ℕ
lines_of_some None = 0
lines_of_some (Some f) = family_lines f

readings_kept : (shown : Shown) (kind : Kind) (family : List ℕ) (rs : List Reading) → total reading_lines (map (federated_reading shown kind family) rs) ≡ total reading_lines rs
unfolding federated_reading
readings_kept shown kind family [] = refl
readings_kept shown kind family (r ∷ rs) = ap (λ n. reading_lines r + n) (readings_kept shown kind family rs)

renamed_lines : (shown : Shown) (f : Family) (rs : List Reading) → lines_of_some (renamed_family shown f rs) ≤ total reading_lines rs
renamed_lines shown f [] = omega arith
renamed_lines shown f (r ∷ rs) =
    let kind : Kind = federated_kind f.kind r.key.name in
    let name : List ℕ = federated_name f.kind r.key.name in
    let kept = readings_kept shown kind name (r ∷ rs) in
    let counted = total_is reading_lines (map (federated_reading shown kind name) (r ∷ rs)) in
    omega (arith, kept, counted)

candidate_lines : (shown : Shown) (f : Family) → lines_of_some (candidate_of shown f) ≤ family_lines f
unfolding candidate_of
candidate_lines shown f = go (is_left_out f.kind f.name)
  where
    go : (b : Bool) → lines_of_some (cond b None (renamed_family shown f (filter (stays f.kind) f.readings))) ≤ family_lines f
    go true = omega arith
    go false =
        let renamed = renamed_lines shown f (filter (stays f.kind) f.readings) in
        let left = total_filtered reading_lines (stays f.kind) f.readings in
        let counted = total_is reading_lines f.readings in
        omega (arith, renamed, left, counted)

candidates_lines : (shown : Shown) (fs : List Family) → total family_lines (filter_map (candidate_of shown) fs) ≤ total family_lines fs
candidates_lines shown [] = omega arith
candidates_lines shown (f ∷ fs) = go (candidate_of shown f) (candidate_lines shown f) (candidates_lines shown fs)
  where
    go : (o : Option Family) → lines_of_some o ≤ family_lines f → total family_lines (filter_map (candidate_of shown) fs) ≤ total family_lines fs
        → total family_lines (cons_option o (filter_map (candidate_of shown) fs)) ≤ family_lines f + total family_lines fs
    go None h ih = omega (arith, ih)
    go (Some g) h ih = omega (arith, h, ih)

-- ---- families that are gathered

total_flat : {A B : Type 0} (f : B → ℕ) (g : A → List B) (xs : List A) → total f (flat_map g xs) ≡ total (λ x. total f (g x)) xs
total_flat f g [] = refl
total_flat f g (x ∷ xs) = let parts = total-append f (g x) (flat_map g xs) in let rest = total_flat f g xs in omega (arith, parts, rest)

merged_lines : (x : Family) (fs : List Family) → family_lines (with_readings_of x fs) ≡ total family_lines fs
merged_lines x fs = total_is reading_lines (flat_map (λ (g : Family). g.readings) fs) ∙ total_flat reading_lines (λ (g : Family). g.readings) fs ∙ each fs
  where
    each : (gs : List Family) → total (λ (g : Family). total reading_lines g.readings) gs ≡ total family_lines gs
    each [] = refl
    each (g ∷ gs) = let here = total_is reading_lines g.readings in let rest = each gs in omega (arith, here, rest)

-- of those that pass a test, what passes a weaker one is no less
total_passing : {A : Type 0} (f : A → ℕ) (p q : A → Bool) → ((x : A) → p x ≡ true → q x ≡ true) → (xs : List A) → total f (filter p xs) ≤ total (λ x. cond (q x) (f x) 0) xs
total_passing f p q more [] = omega arith
total_passing f p q more (x ∷ xs) = go (p x) (q x) refl refl (total_passing f p q more xs)
  where
    go : (a b : Bool) → p x ≡ a → q x ≡ b → total f (filter p xs) ≤ total (λ y. cond (q y) (f y) 0) xs → total f (cond a (x ∷ filter p xs) (filter p xs)) ≤ cond b (f x) 0 + total (λ y. cond (q y) (f y) 0) xs
    go true true d e ih = omega (arith, ih)
    go true false d e ih = absurd (let h : true ≡ false = sym (more x d) ∙ e in cc)
    go false true d e ih = omega (arith, ih)
    go false false d e ih = omega (arith, ih)

one_name : (x y : Family) → is_one_family (family_key x) (family_key y) ≡ true → bytes_eq y.name x.name ≡ true
unfolding is_one_family
one_name x y h =
    let first = and_parts (bytes_eq x.name y.name && kind_eq x.kind y.kind) (bytes_eq x.unit y.unit) h in
    let name = and_parts (bytes_eq x.name y.name) (kind_eq x.kind y.kind) first.0 in
    (bytes_decides y.name x.name).1 (sym ((bytes_decides x.name y.name).0 name.0))

gathered_lines : (cs : List Family) → total family_lines (gathered_families cs) ≤ total family_lines cs
unfolding gathered_families gathered_by
gathered_lines cs =
    let ys : List Family = sorted_by_name family_key (founders family_key (reverse cs)) in
    let distinct : IsDistinct bytes_eq (map (λ (f : Family). f.name) ys) = names_apart ys (sorted_apart (founders family_key (reverse cs)) (founders_apart (reverse cs))) in
    let listed = total-map family_lines (λ x. with_readings_of x (filter (λ y. is_one_family (family_key x) (family_key y)) cs)) ys in
    let each = total-le (λ x. family_lines (with_readings_of x (filter (λ y. is_one_family (family_key x) (family_key y)) cs))) (λ (x : Family). total (λ (c : Family). cond (bytes_eq c.name x.name) (family_lines c) 0) cs)
    (λ x.
    let merged = merged_lines x (filter (λ y. is_one_family (family_key x) (family_key y)) cs) in
    let passing = total_passing family_lines (λ y. is_one_family (family_key x) (family_key y)) (λ (c : Family). bytes_eq c.name x.name) (one_name x) cs in
    omega (arith, merged, passing)) ys in
    let turned = total-twice (λ (x c : Family). cond (bytes_eq c.name x.name) (family_lines c) 0) ys cs in
    let once = total-le (λ (c : Family). total (λ (x : Family). cond (bytes_eq c.name x.name) (family_lines c) 0) ys) family_lines
    (λ c.
    let names = total-map (λ name. cond (bytes_eq c.name name) (family_lines c) 0) (λ (x : Family). x.name) ys in
    let most = at_most_one bytes_eq same_bytes c.name (family_lines c) (map (λ (f : Family). f.name) ys) distinct in
    omega (arith, names, most)) cs in
    omega (arith, listed, each, turned, once)

-- ---- the page

shown_lines : (shown : List Shown) → AllByRecursion IsShowable shown → total (λ s. total family_lines (candidates_of s)) shown ≤ length shown * 400000
unfolding candidates_of
shown_lines [] h = omega arith
shown_lines (s ∷ shown) h =
    let candidates = candidates_lines s s.page.families in
    let counted = families_counted s.page.families in
    let listed = total_is family_lines s.page.families in
    let few = few_lines h.0.page.0 s.page h.0.page.2 in
    let samples = h.0.samples in
    let rest = shown_lines shown h.1 in
    omega (arith, candidates, counted, listed, few, samples, rest)

pub few_gathered : GatheredAreFew
unfolding federated_page
few_gathered shown able =
    let cs : List Family = flat_map candidates_of shown in
    let counted = families_counted (gathered_families cs) in
    let listed = total_is family_lines (gathered_families cs) in
    let gathered = gathered_lines cs in
    let flat = total_flat family_lines candidates_of shown in
    let each = shown_lines shown (recursion_from_All IsShowable shown able.each) in
    let few = able.few in
    omega (arith, counted, listed, gathered, flat, each, few)
