-- Families in byte order of their names: how the definition's insertion meets a sort, and an order in which they were founded.
use Rattle.std.proofs.Common.{◌≡◌, ℕ, ◌+◌, ◌<◌, Bool, true, false, cond, List, [], ◌∷◌, ◌++◌, map, reverse, length, get_or, refl, sym, ap, ◌∙◌, arith}
use Rattle.std.specs.List.{AllByRecursion, IsDistinct}
use Rattle.std.specs.List.Sorted.{IsStrictlySortedBy, IsPermutation, IsSortedBy}
use Rattle.std.specs.Str.{bytes_eq}
use Rattle.std.specs.Cmp.{IsTotalOrder}
use Rattle.std.specs.Cmp.Lexicographic.{slice_cmp}
use Rattle.std.specs.Ordering.{is_lt, is_eq, nat_cmp}
use Rattle.std.specs.declared.cmp.Ordering.{Ordering}
use Rattle.std.specs.declared.cmp.Ordering.TheVariants.{Less, Equal, Greater}
use Rattle.std.proofs.lemmas.Cmp.{on_total, nat_list_cmp_total}
use Rattle.std.proofs.lemmas.List.Sorted.{IsPermutation-refl, IsPermutation-sym, IsPermutation-trans, IsPermutation-cons, IsPermutation-middle, IsPermutation-map, IsPermutation-reverse}
use Rattle.std.proofs.lemmas.Map.Keys.{IsDistinct-IsPermutation, apart_from_distinct, sorted_from_all_adjacent}
use Rattle.std.proofs.lemmas.Map.Text.{is_eq-slice_cmp}
use Rattle.label_sets.specs.Labels.{name_before}
use Rattle.label_sets.proofs.Laws.{sorted_permutation, bytes_eq-swap}
use Rattle.page_model.specs.declared.page.Family.{Family}
use Rattle.open_writing.specs.FamilyKeys.{family_key, AreApart}
use Rattle.federation_page.specs.Conflicts.{founders, placed_by_name, sorted_by_name, gathered_by, with_candidates}
use Rattle.federation_page.specs.Gathering.{gathered_families}
use Rattle.federation_page.proofs.Founders.{founders_apart, names_apart}
use Rattle.federation_page.proofs.Steps.{so_far, founded_of, step}
use Rattle.federation_page.proofs.Writable.{all_placed}

-- ---- the definition's insertion

abbrev pub by_name : Family → Family → Ordering
by_name x y = slice_cmp nat_cmp x.name y.name

pub by_name_total : IsTotalOrder by_name
by_name_total = on_total (λ (x : Family). x.name) nat_list_cmp_total

abbrev sorted : List Family → List Family
sorted xs = sorted_by_name family_key xs

abbrev placed : Family → List Family → List Family
placed x ys = placed_by_name family_key x ys

-- no two have one name
abbrev AreNamed : List Family → Type 0
AreNamed xs = IsDistinct bytes_eq (map (λ (x : Family). x.name) xs)

placed_moves : (x : Family) (ys : List Family) → IsPermutation (x ∷ ys) (placed x ys)
placed_moves x [] = IsPermutation-refl (x ∷ [])
placed_moves x (y ∷ ys) = go (name_before x.name y.name) (placed_moves x ys)
  where
    go : (b : Bool) → IsPermutation (x ∷ ys) (placed x ys) → IsPermutation (x ∷ y ∷ ys) (cond b (x ∷ y ∷ ys) (y ∷ placed x ys))
    go true ih = IsPermutation-refl (x ∷ y ∷ ys)
    go false ih = IsPermutation-trans (x ∷ y ∷ ys) (y ∷ x ∷ ys) (y ∷ placed x ys) (IsPermutation-middle (x ∷ []) y ys) (IsPermutation-cons y (x ∷ ys) (placed x ys) ih)

sorted_moves : (xs : List Family) → IsPermutation xs (sorted xs)
sorted_moves [] = IsPermutation-refl []
sorted_moves (x ∷ xs) = IsPermutation-trans (x ∷ xs) (x ∷ sorted xs) (sorted (x ∷ xs)) (IsPermutation-cons x xs (sorted xs) (sorted_moves xs)) (placed_moves x (sorted xs))

less_is : (r : Ordering) → is_lt r ≡ true → r ≡ Less
less_is Less h = refl
less_is Equal h = absurd (let bad : false ≡ true = h in cc)
less_is Greater h = absurd (let bad : false ≡ true = h in cc)

-- of two names that differ, the one that isn't less is greater
other_way : (x y : Family) → bytes_eq x.name y.name ≡ false → is_lt (by_name x y) ≡ false → by_name y x ≡ Less
other_way x y apart not_less = go (by_name x y) refl
  where
    go : (r : Ordering) → by_name x y ≡ r → by_name y x ≡ Less
    go Less e = absurd (let f : true ≡ false = sym (ap is_lt e) ∙ not_less in cc)
    go Equal e = absurd (let f : true ≡ false = sym (ap is_eq e) ∙ is_eq-slice_cmp x.name y.name ∙ apart in cc)
    go Greater e = by_name_total.antisymm y x ∙ rw e refl

below_too : (x y : Family) (ys : List Family) → by_name x y ≡ Less → AllByRecursion (λ z. by_name y z ≡ Less) ys → AllByRecursion (λ z. by_name x z ≡ Less) ys
below_too x y [] e h = tt
below_too x y (z ∷ zs) e h = (by_name_total.trans x y z e h.0, below_too x y zs e h.1)

placed_strict : (x : Family) (ys : List Family) → AllByRecursion (λ n. bytes_eq x.name n ≡ false) (map (λ (y : Family). y.name) ys) → IsStrictlySortedBy by_name ys → IsStrictlySortedBy by_name (placed x ys)
unfolding IsStrictlySortedBy
placed_strict x [] n s = (tt, tt)
placed_strict x (y ∷ ys) n s = go (name_before x.name y.name) refl (placed_strict x ys n.1 s.1)
  where
    go : (b : Bool) → name_before x.name y.name ≡ b → IsStrictlySortedBy by_name (placed x ys) → IsStrictlySortedBy by_name (cond b (x ∷ y ∷ ys) (y ∷ placed x ys))
    go true e ih = let first = less_is (by_name x y) e in ((first, below_too x y ys first s.0), s)
    go false e ih = (all_placed (λ z. by_name y z ≡ Less) x ys (other_way x y n.0 e) s.0, ih)

names_placed : (P : List ℕ → Type 0) (x : Family) (ys : List Family) → P x.name → AllByRecursion P (map (λ (y : Family). y.name) ys) → AllByRecursion P (map (λ (y : Family). y.name) (placed x ys))
names_placed P x [] p h = (p, tt)
names_placed P x (y ∷ ys) p h = go (name_before x.name y.name) (names_placed P x ys p h.1)
  where
    go : (b : Bool) → AllByRecursion P (map (λ (z : Family). z.name) (placed x ys)) → AllByRecursion P (map (λ (z : Family). z.name) (cond b (x ∷ y ∷ ys) (y ∷ placed x ys)))
    go true ih = (p, h)
    go false ih = (h.0, ih)

names_sorted : (P : List ℕ → Type 0) (xs : List Family) → AllByRecursion P (map (λ (y : Family). y.name) xs) → AllByRecursion P (map (λ (y : Family). y.name) (sorted xs))
names_sorted P [] h = tt
names_sorted P (x ∷ xs) h = names_placed P x (sorted xs) h.0 (names_sorted P xs h.1)

sorted_strict : (xs : List Family) → AreNamed xs → IsStrictlySortedBy by_name (sorted xs)
unfolding IsStrictlySortedBy IsDistinct
sorted_strict [] d = tt
sorted_strict (x ∷ xs) d = placed_strict x (sorted xs) (names_sorted (λ n. bytes_eq x.name n ≡ false) xs d.0) (sorted_strict xs d.1)

named_permuted : (xs ys : List Family) → IsPermutation xs ys → AreNamed xs → AreNamed ys
named_permuted xs ys p d = IsDistinct-IsPermutation bytes_eq bytes_eq-swap (map (λ (x : Family). x.name) xs) (map (λ (x : Family). x.name) ys) (IsPermutation-map (λ (x : Family). x.name) xs ys p) d

by_names : (xs : List Family) → AreNamed xs → IsDistinct (λ (x y : Family). bytes_eq x.name y.name) xs
unfolding IsDistinct
by_names [] d = tt
by_names (x ∷ xs) d = (first xs d.0, by_names xs d.1)
  where
    first : (ys : List Family) → AllByRecursion (λ n. bytes_eq x.name n ≡ false) (map (λ (y : Family). y.name) ys) → AllByRecursion (λ (y : Family). bytes_eq x.name y.name ≡ false) ys
    first [] h = tt
    first (y ∷ ys) h = (h.0, first ys h.1)

-- what a sort leaves ascends strictly, where the names are distinct
strict_from_sort : (ys : List Family) → AreNamed ys → IsSortedBy (λ x y. is_lt (by_name x y)) ys → IsStrictlySortedBy by_name ys
unfolding IsStrictlySortedBy
strict_from_sort [] d s = tt
strict_from_sort (y ∷ ys) d s = sorted_from_all_adjacent by_name_total (y ∷ ys) y (λ k h. next k h)
  where
    next : (k : ℕ) → k + 1 < length (y ∷ ys) → by_name (get_or (y ∷ ys) k y) (get_or (y ∷ ys) (k + 1) y) ≡ Less
    next k h =
        let a : Family = get_or (y ∷ ys) k y in let b : Family = get_or (y ∷ ys) (k + 1) y in
        other_way b a (bytes_eq-swap b.name a.name ∙ apart_from_distinct (λ (x z : Family). bytes_eq x.name z.name) (y ∷ ys) k (k + 1) y (by_names (y ∷ ys) d) (omega arith) h) (s k y (omega arith) h)

-- what a sort leaves is what the definition says
pub sort_is : (xs ys : List Family) → AreApart xs → IsPermutation xs ys → IsSortedBy (λ x y. is_lt (by_name x y)) ys → ys ≡ sorted_by_name family_key xs
sort_is xs ys apart p s =
    let named : AreNamed xs = names_apart xs apart in
    sorted_permutation by_name by_name_total ys (sorted xs) (strict_from_sort ys (named_permuted xs ys p named) s) (sorted_strict xs named) (IsPermutation-trans ys xs (sorted xs) (IsPermutation-sym xs ys p) (sorted_moves xs))

-- the order in which they were founded is not seen
sorted_reversed : (xs : List Family) → AreApart xs → sorted (reverse xs) ≡ sorted xs
sorted_reversed xs apart =
    let named : AreNamed xs = names_apart xs apart in
    let turned : AreNamed (reverse xs) = named_permuted xs (reverse xs) (IsPermutation-reverse xs) named in
    sorted_permutation by_name by_name_total (sorted (reverse xs)) (sorted xs) (sorted_strict (reverse xs) turned) (sorted_strict xs named)
    (IsPermutation-trans (sorted (reverse xs)) (reverse xs) (sorted xs) (IsPermutation-sym (reverse xs) (sorted (reverse xs)) (sorted_moves (reverse xs)))
    (IsPermutation-trans (reverse xs) xs (sorted xs) (IsPermutation-sym xs (reverse xs) (IsPermutation-reverse xs)) (sorted_moves xs)))

-- ---- the families of all candidates

module _ (cs : List Family) where
  placed_founded : (x : Family) (ys : List Family) → placed (founded_of cs x) (map (founded_of cs) ys) ≡ map (founded_of cs) (placed x ys)
  placed_founded x [] = refl
  placed_founded x (y ∷ ys) = go (name_before x.name y.name) (placed_founded x ys)
    where
      go : (b : Bool) → placed (founded_of cs x) (map (founded_of cs) ys) ≡ map (founded_of cs) (placed x ys)
          → cond b (founded_of cs x ∷ founded_of cs y ∷ map (founded_of cs) ys) (founded_of cs y ∷ placed (founded_of cs x) (map (founded_of cs) ys)) ≡ map (founded_of cs) (cond b (x ∷ y ∷ ys) (y ∷ placed x ys))
      go true ih = refl
      go false ih = ap (λ zs. founded_of cs y ∷ zs) ih

  sorted_founded : (xs : List Family) → sorted (map (founded_of cs) xs) ≡ map (founded_of cs) (sorted xs)
  sorted_founded [] = refl
  sorted_founded (x ∷ xs) = ap (placed (founded_of cs x)) (sorted_founded xs) ∙ placed_founded x (sorted xs)

  so_far_sorted : sorted_by_name family_key (so_far cs) ≡ gathered_families cs
  unfolding gathered_families gathered_by
  so_far_sorted = sorted_founded (reverse (founders family_key (reverse cs))) ∙ ap (map (founded_of cs)) (sorted_reversed (founders family_key (reverse cs)) (founders_apart (reverse cs)))

with_more : (done cs : List Family) → with_candidates (so_far done) cs ≡ so_far (done ++ cs)
with_more done [] = ap so_far (sym (nothing done))
  where
    nothing : (xs : List Family) → xs ++ [] ≡ xs
    nothing [] = refl
    nothing (x ∷ xs) = ap (λ ys. x ∷ ys) (nothing xs)
with_more done (c ∷ cs) = ap (λ fs. with_candidates fs cs) (sym (step done c)) ∙ with_more (done ++ c ∷ []) cs ∙ ap so_far (moved done)
  where
    moved : (xs : List Family) → (xs ++ c ∷ []) ++ cs ≡ xs ++ c ∷ cs
    moved [] = refl
    moved (x ∷ xs) = ap (λ ys. x ∷ ys) (moved xs)

pub all_sorted_are : (cs : List Family) → sorted_by_name family_key (with_candidates [] cs) ≡ gathered_families cs
unfolding founders
all_sorted_are cs = ap (sorted_by_name family_key) (with_more [] cs) ∙ so_far_sorted cs
