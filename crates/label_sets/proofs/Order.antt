-- Labels in the order of their names: how the definition's insertion meets a sort's permutation.
use Rattle.std.proofs.Common.{◌≡◌, ◌≢◌, ℕ, zero, suc, ◌+◌, ◌<◌, Bool, true, false, cond, not, List, [], ◌∷◌, ◌++◌, length, take, drop, get_or, refl, sym, ap, subst, ◌∙◌, ◌⊎◌, inl, inr, arith}
use Rattle.std.specs.List.{Contains, AllByRecursion, IsDistinct, filter}
use Rattle.std.specs.List.Sorted.{IsStrictlySortedBy, IsPermutation, IsSorted}
use Rattle.std.specs.Str.{bytes_eq}
use Rattle.std.specs.Cmp.{IsTotalOrder}
use Rattle.std.specs.Ordering.{is_lt, is_eq}
use Rattle.std.specs.declared.cmp.Ordering.{Ordering}
use Rattle.std.specs.declared.cmp.Ordering.TheVariants.{Less, Equal, Greater}
use Rattle.std.proofs.lemmas.Cmp.{on_total, nat_list_cmp_total, tied_itself}
use Rattle.std.proofs.lemmas.List.Elements.{All-contains, All-filter, All-nil, All-weaker, filter_passes, All-from_recursion, recursion_from_All}
use Rattle.std.proofs.lemmas.List.Sorted.{IsPermutation-refl, IsPermutation-sym, IsPermutation-trans, IsPermutation-cons, IsPermutation-middle, All-permutation, Contains-permutation}
use Rattle.std.proofs.lemmas.List.Kept.{IsStrictlySortedBy-filter}
use Rattle.std.proofs.lemmas.Map.Keys.{IsDistinct-from_sorted, IsDistinct-IsPermutation, apart_from_distinct, sorted_from_all_adjacent}
use Rattle.label_sets.specs.declared.label.Label.{Label}
use Rattle.label_sets.specs.Sets.{by_name, IsLabelSet}
use Rattle.label_sets.specs.Labels.{label_inserted, labels_sorted, has_value, label_set, without_label}
use Rattle.label_sets.specs.Building.{same_name}
use Rattle.label_sets.specs.Keys.{label_cmp}
use Rattle.label_sets.proofs.ListLaws.{all-weaker, all-filter}

pub by_name_total : IsTotalOrder by_name
by_name_total = on_total (λ (l : Label). l.name) nat_list_cmp_total

pub every : {X : Type 0} (P : X → Type 0) (xs : List X) (z : X) → AllByRecursion P xs → Contains xs z → P z
every P xs z h c = All-contains P xs z (All-from_recursion P xs h) c

permuted : {X : Type 0} (P : X → Type 0) (xs ys : List X) → IsPermutation xs ys → AllByRecursion P xs → AllByRecursion P ys
permuted P xs ys p h = recursion_from_All P ys (All-permutation P xs ys p (All-from_recursion P xs h))

here : {X : Type 0} (x : X) (xs : List X) → Contains (x ∷ xs) x
here x xs = (0, (omega arith), refl)

there : {X : Type 0} (x : X) (xs : List X) (z : X) → Contains xs z → Contains (x ∷ xs) z
there x xs z c = (suc c.0, (let h : c.0 < length xs = c.1 in omega arith), c.2)

contains_cases : {X : Type 0} (x : X) (xs : List X) (z : X) → Contains (x ∷ xs) z → (x ≡ z) ⊎ Contains xs z
contains_cases x xs z c = go c.0 c.1 c.2
  where
    go : (k : ℕ) → k < length (x ∷ xs) → get_or (x ∷ xs) k z ≡ z → (x ≡ z) ⊎ Contains xs z
    go zero h e = inl e
    go (suc k) h e = inr (k, omega arith, e)

-- strictly sorted lists with the same elements are the same
module _ {X : Type 0} (R : X → X → Ordering) (o : IsTotalOrder R) where
  not_both : (x y : X) → R x y ≡ Less → R y x ≡ Less → x ≡ y
  not_both x y h k = absurd (let e : R x y ≡ _ = o.antisymm x y in let f : Less ≡ Greater = sym h ∙ e ∙ rw k refl in cc)

  first_same : (x y : X) (xs ys : List X) → AllByRecursion (λ z. R x z ≡ Less) xs → AllByRecursion (λ z. R y z ≡ Less) ys → Contains (y ∷ ys) x → Contains (x ∷ xs) y → x ≡ y
  first_same x y xs ys below_x below_y c d = go (contains_cases y ys x c) (contains_cases x xs y d)
    where
      go : ((y ≡ x) ⊎ Contains ys x) → ((x ≡ y) ⊎ Contains xs y) → x ≡ y
      go (inl e) q = sym e
      go (inr a) (inl e) = e
      go (inr a) (inr b) = not_both x y (every (λ z. R x z ≡ Less) xs y below_x b) (every (λ z. R y z ≡ Less) ys x below_y a)

  in_rest : (x : X) (xs ys : List X) → AllByRecursion (λ z. R x z ≡ Less) xs → ((z : X) → Contains (x ∷ xs) z → Contains (x ∷ ys) z) → (z : X) → Contains xs z → Contains ys z
  in_rest x xs ys below f z c = go (contains_cases x ys z (f z (there x xs z c)))
    where
      go : ((x ≡ z) ⊎ Contains ys z) → Contains ys z
      go (inr d) = d
      go (inl e) = absurd (let less : R x z ≡ Less = every (λ z. R x z ≡ Less) xs z below c in let tied : R x x ≡ Equal = tied_itself o x in let f : R x z ≡ Equal = subst (λ (w : X). R x w ≡ Equal) e tied in let g : Less ≡ Equal = sym less ∙ f in cc)

  same_sorted : (xs ys : List X) → IsStrictlySortedBy R xs → IsStrictlySortedBy R ys → ((z : X) → Contains xs z → Contains ys z) → ((z : X) → Contains ys z → Contains xs z) → xs ≡ ys
  unfolding IsStrictlySortedBy
  same_sorted [] [] a b f g = refl
  same_sorted [] (y ∷ ys) a b f g = absurd (let c = g y (here y ys) in let h : c.0 < 0 = c.1 in omega arith)
  same_sorted (x ∷ xs) [] a b f g = absurd (let c = f x (here x xs) in let h : c.0 < 0 = c.1 in omega arith)
  same_sorted (x ∷ xs) (y ∷ ys) a b f g = with_first (first_same x y xs ys a.0 b.0 (f x (here x xs)) (g y (here y ys))) (λ k m. same_sorted xs ys a.1 b.1 k m)
    where
      with_first : x ≡ y → (((z : X) → Contains xs z → Contains ys z) → ((z : X) → Contains ys z → Contains xs z) → xs ≡ ys) → x ∷ xs ≡ y ∷ ys
      with_first e rest_same =
          let f' : (z : X) → Contains (x ∷ xs) z → Contains (x ∷ ys) z = subst (λ (w : X). (z : X) → Contains (x ∷ xs) z → Contains (w ∷ ys) z) (sym e) f in
          let g' : (z : X) → Contains (x ∷ ys) z → Contains (x ∷ xs) z = subst (λ (w : X). (z : X) → Contains (w ∷ ys) z → Contains (x ∷ xs) z) (sym e) g in
          let below : AllByRecursion (λ z. R x z ≡ Less) ys = subst (λ (w : X). AllByRecursion (λ z. R w z ≡ Less) ys) (sym e) b.0 in
          let rest : xs ≡ ys = rest_same (in_rest x xs ys a.0 f') (in_rest x ys xs below g') in
          ap (λ (w : X). w ∷ xs) e ∙ ap (λ (ws : List X). y ∷ ws) rest

  pub sorted_permutation : (xs ys : List X) → IsStrictlySortedBy R xs → IsStrictlySortedBy R ys → IsPermutation xs ys → xs ≡ ys
  sorted_permutation xs ys a b p = same_sorted xs ys a b (λ z c. Contains-permutation xs ys z p c) (λ z c. Contains-permutation ys xs z (IsPermutation-sym xs ys p) c)

-- ---- the definition's insertion

inserted_front : (l : Label) (ms : List Label) → AllByRecursion (λ m. by_name l m ≡ Less) ms → label_inserted l ms ≡ l ∷ ms
inserted_front l [] h = refl
inserted_front l (m ∷ ms) h = rw h.0 refl

pub sorted_itself : (ls : List Label) → IsStrictlySortedBy by_name ls → labels_sorted ls ≡ ls
unfolding IsStrictlySortedBy
sorted_itself [] h = refl
sorted_itself (l ∷ ls) h = ap (label_inserted l) (sorted_itself ls h.1) ∙ inserted_front l ls h.0

inserted_moves : (l : Label) (ms : List Label) → IsPermutation (l ∷ ms) (label_inserted l ms)
inserted_moves l [] = IsPermutation-refl (l ∷ [])
inserted_moves l (m ∷ ms) = go (is_lt (by_name l m)) (inserted_moves l ms)
  where
    go : (b : Bool) → IsPermutation (l ∷ ms) (label_inserted l ms) → IsPermutation (l ∷ m ∷ ms) (cond b (l ∷ m ∷ ms) (m ∷ label_inserted l ms))
    go true ih = IsPermutation-refl (l ∷ m ∷ ms)
    go false ih = IsPermutation-trans (l ∷ m ∷ ms) (m ∷ l ∷ ms) (m ∷ label_inserted l ms) (IsPermutation-middle (l ∷ []) m ms) (IsPermutation-cons m (l ∷ ms) (label_inserted l ms) ih)

pub sorted_moves : (ls : List Label) → IsPermutation ls (labels_sorted ls)
sorted_moves [] = IsPermutation-refl []
sorted_moves (l ∷ ls) = IsPermutation-trans (l ∷ ls) (l ∷ labels_sorted ls) (label_inserted l (labels_sorted ls)) (IsPermutation-cons l ls (labels_sorted ls) (sorted_moves ls)) (inserted_moves l (labels_sorted ls))

-- of two names that differ, the one that isn't less is greater
other_way : (l m : Label) → same_name l m ≡ false → is_lt (by_name l m) ≡ false → by_name m l ≡ Less
other_way l m apart not_less = go (by_name l m) refl
  where
    go : (r : Ordering) → by_name l m ≡ r → by_name m l ≡ Less
    go Less e = absurd (let f : true ≡ false = sym (ap is_lt e) ∙ not_less in cc)
    go Equal e = absurd (let f : true ≡ false = sym (ap is_eq e) ∙ apart in cc)
    go Greater e = by_name_total.antisymm m l ∙ rw e refl

less_is : (l m : Label) → is_lt (by_name l m) ≡ true → by_name l m ≡ Less
less_is l m h = go (by_name l m) refl
  where
    go : (r : Ordering) → by_name l m ≡ r → by_name l m ≡ Less
    go Less e = e
    go Equal e = absurd (let f : false ≡ true = sym (ap is_lt e) ∙ h in cc)
    go Greater e = absurd (let f : false ≡ true = sym (ap is_lt e) ∙ h in cc)

inserted_ascending : (l : Label) (ms : List Label) → AllByRecursion (λ m. same_name l m ≡ false) ms → IsStrictlySortedBy by_name ms → IsStrictlySortedBy by_name (label_inserted l ms)
unfolding IsStrictlySortedBy
inserted_ascending l [] apart h = (tt, tt)
inserted_ascending l (m ∷ ms) apart h = go (is_lt (by_name l m)) refl (inserted_ascending l ms apart.1 h.1)
  where
    go : (b : Bool) → is_lt (by_name l m) ≡ b → IsStrictlySortedBy by_name (label_inserted l ms) → IsStrictlySortedBy by_name (cond b (l ∷ m ∷ ms) (m ∷ label_inserted l ms))
    go true e ih = let less = less_is l m e in ((less, all-weaker (λ z. by_name m z ≡ Less) (λ z. by_name l z ≡ Less) (λ z k. by_name_total.trans l m z less k) ms h.0), h)
    go false e ih = (permuted (λ z. by_name m z ≡ Less) (l ∷ ms) (label_inserted l ms) (inserted_moves l ms) (other_way l m apart.0 e, h.0), ih)

pub sorted_ascending : (ls : List Label) → IsDistinct same_name ls → IsStrictlySortedBy by_name (labels_sorted ls)
unfolding IsStrictlySortedBy IsDistinct
sorted_ascending [] h = tt
sorted_ascending (l ∷ ls) h = inserted_ascending l (labels_sorted ls) (permuted (λ m. same_name l m ≡ false) ls (labels_sorted ls) (sorted_moves ls) h.0) (sorted_ascending ls h.1)

pub same_name_turned : (a b : Label) → same_name a b ≡ same_name b a
same_name_turned a b = go (by_name b a) refl
  where
    go : (r : Ordering) → by_name b a ≡ r → same_name a b ≡ same_name b a
    go Less e = rw (by_name_total.antisymm a b, e) refl
    go Equal e = rw (by_name_total.antisymm a b, e) refl
    go Greater e = rw (by_name_total.antisymm a b, e) refl

pub distinct_before : (xs ys : List Label) → IsPermutation xs ys → IsStrictlySortedBy by_name ys → IsDistinct same_name xs
distinct_before xs ys p h = IsDistinct-IsPermutation same_name same_name_turned ys xs (IsPermutation-sym xs ys p) (IsDistinct-from_sorted by_name ys h)

-- what a sort leaves is what the definition says
pub sorted_is : (xs ys : List Label) → IsPermutation xs ys → IsStrictlySortedBy by_name ys → ys ≡ labels_sorted xs
sorted_is xs ys p h = sorted_permutation by_name by_name_total ys (labels_sorted xs) h (sorted_ascending xs (distinct_before xs ys p h)) (IsPermutation-trans ys xs (labels_sorted xs) (IsPermutation-sym xs ys p) (sorted_moves xs))

-- after std's sort by name and value, the names ascend where they are distinct
pub ascending_from_sort : (ys : List Label) → IsDistinct same_name ys → IsSorted label_cmp ys → IsStrictlySortedBy by_name ys
unfolding IsStrictlySortedBy
ascending_from_sort [] d s = tt
ascending_from_sort (y ∷ ys) d s = sorted_from_all_adjacent by_name_total (y ∷ ys) y (λ k h. next k h)
  where
    next : (k : ℕ) → k + 1 < length (y ∷ ys) → by_name (get_or (y ∷ ys) k y) (get_or (y ∷ ys) (k + 1) y) ≡ Less
    next k h = other_way (get_or (y ∷ ys) (k + 1) y) (get_or (y ∷ ys) k y) (same_name_turned (get_or (y ∷ ys) (k + 1) y) (get_or (y ∷ ys) k y) ∙ apart_from_distinct same_name (y ∷ ys) k (k + 1) y d (omega arith) h) (not_less (s k y (omega arith) h))
      where
        not_less : is_lt (label_cmp (get_or (y ∷ ys) (k + 1) y) (get_or (y ∷ ys) k y)) ≡ false → is_lt (by_name (get_or (y ∷ ys) (k + 1) y) (get_or (y ∷ ys) k y)) ≡ false
        not_less e = go (by_name (get_or (y ∷ ys) (k + 1) y) (get_or (y ∷ ys) k y)) refl
          where
            go : (r : Ordering) → by_name (get_or (y ∷ ys) (k + 1) y) (get_or (y ∷ ys) k y) ≡ r → is_lt r ≡ false
            go Less f = sym (rw f refl) ∙ e
            go Equal f = refl
            go Greater f = refl

placed : (P : Label → Type 0) (l : Label) (ms : List Label) (at : ℕ) → P l → AllByRecursion P ms → AllByRecursion P (take at ms ++ l ∷ drop at ms)
placed P l ms zero p h = (p, h)
placed P l [] (suc at) p h = (p, tt)
placed P l (m ∷ ms) (suc at) p h = (h.0, placed P l ms at p h.1)

-- a label among ascending ones, those before `at` less and those from there on greater
pub inserted_between : (l : Label) (ms : List Label) (at : ℕ) → IsStrictlySortedBy by_name ms
    → AllByRecursion (λ m. by_name m l ≡ Less) (take at ms) → AllByRecursion (λ m. by_name l m ≡ Less) (drop at ms) → IsStrictlySortedBy by_name (take at ms ++ l ∷ drop at ms)
unfolding IsStrictlySortedBy
inserted_between l ms zero h before behind = (behind, h)
inserted_between l [] (suc at) h before behind = (tt, tt)
inserted_between l (m ∷ ms) (suc at) h before behind = (placed (λ z. by_name m z ≡ Less) l ms at before.0 h.0, inserted_between l ms at h.1 before.1 behind)

-- ---- without empty values

kept_from : {X : Type 0} (p : X → Bool) (xs : List X) (z : X) → Contains (filter p xs) z → Contains xs z × (p z ≡ true)
kept_from p [] z c = absurd (let h : c.0 < 0 = c.1 in omega arith)
kept_from {X} p (x ∷ xs) z c = go (p x) refl c (λ k. kept_from p xs z k)
  where
    go : (b : Bool) → p x ≡ b → Contains (cond b (x ∷ filter p xs) (filter p xs)) z → (Contains (filter p xs) z → Contains xs z × (p z ≡ true)) → Contains (x ∷ xs) z × (p z ≡ true)
    go true e k ih = elim (contains_cases x (filter p xs) z k) [
      | inl same ↦ (subst (λ (w : X). Contains (x ∷ xs) w) same (here x xs), subst (λ (w : X). p w ≡ true) same e)
      | inr rest ↦ (let both = ih rest in (there x xs z both.0, both.1))
    ]
    go false e k ih = (let both = ih k in (there x xs z both.0, both.1))

kept : {X : Type 0} (p : X → Bool) (xs : List X) (z : X) → Contains xs z → p z ≡ true → Contains (filter p xs) z
kept p [] z c t = c
kept {X} p (x ∷ xs) z c t = go (p x) refl (contains_cases x xs z c) (λ k. kept p xs z k t)
  where
    go : (b : Bool) → p x ≡ b → ((x ≡ z) ⊎ Contains xs z) → (Contains xs z → Contains (filter p xs) z) → Contains (cond b (x ∷ filter p xs) (filter p xs)) z
    go true e (inl same) ih = subst (λ (w : X). Contains (x ∷ filter p xs) w) same (here x (filter p xs))
    go true e (inr rest) ih = there x (filter p xs) z (ih rest)
    go false e (inl same) ih = absurd (let f : true ≡ false = sym t ∙ (ap p (sym same) ∙ e) in cc)
    go false e (inr rest) ih = ih rest

-- distinct elements stay distinct where some are left out
pub distinct_kept : {X : Type 0} (e : X → X → Bool) (p : X → Bool) (xs : List X) → IsDistinct e xs → IsDistinct e (filter p xs)
unfolding IsDistinct
distinct_kept e p [] h = tt
distinct_kept e p (x ∷ xs) h = go (p x) (distinct_kept e p xs h.1)
  where
    go : (b : Bool) → IsDistinct e (filter p xs) → IsDistinct e (cond b (x ∷ filter p xs) (filter p xs))
    go true ih = (all-filter (λ y. e x y ≡ false) p xs h.0, ih)
    go false ih = ih

-- what is left of a sorted list without empty values is the set of the pairs
pub set_is : (xs ys : List Label) → IsPermutation xs ys → IsStrictlySortedBy by_name ys → filter has_value ys ≡ label_set xs
set_is xs ys p h = same_sorted by_name by_name_total (filter has_value ys) (labels_sorted (filter has_value xs))
    (IsStrictlySortedBy-filter by_name has_value ys h)
    (sorted_ascending (filter has_value xs) (distinct_kept same_name has_value xs (distinct_before xs ys p h)))
    (λ z c. let both = kept_from has_value ys z c in
    Contains-permutation (filter has_value xs) (labels_sorted (filter has_value xs)) z (sorted_moves (filter has_value xs)) (kept has_value xs z (Contains-permutation ys xs z (IsPermutation-sym xs ys p) both.0) both.1))
    (λ z c. let both = kept_from has_value xs z (Contains-permutation (labels_sorted (filter has_value xs)) (filter has_value xs) z (IsPermutation-sym (filter has_value xs) (labels_sorted (filter has_value xs)) (sorted_moves (filter has_value xs))) c) in
    kept has_value ys z (Contains-permutation xs ys z p both.0) both.1)

-- a set stays one where labels are left out
pub IsLabelSet-filter : (p : Label → Bool) (ls : List Label) → IsLabelSet ls → IsLabelSet (filter p ls)
IsLabelSet-filter p ls h = record { ascending = IsStrictlySortedBy-filter by_name p ls h.ascending; valued = All-filter p (λ (l : Label). l.value ≢ []) ls h.valued }

has_some : (l : Label) → has_value l ≡ true → l.value ≢ []
has_some l h = λ e. let f : has_value l ≡ false = ap (λ (v : List ℕ). not (bytes_eq v [])) e in let g : true ≡ false = sym h ∙ f in cc

-- sorted labels without empty values are a set
pub IsLabelSet-valued : (ls : List Label) → IsStrictlySortedBy by_name ls → IsLabelSet (filter has_value ls)
IsLabelSet-valued ls h = record {
  ascending = IsStrictlySortedBy-filter by_name has_value ls h;
  valued = All-weaker (λ (l : Label). has_value l ≡ true) (λ (l : Label). l.value ≢ []) has_some (filter has_value ls) (filter_passes has_value ls);
}

pub IsLabelSet-nil : IsLabelSet []
unfolding IsStrictlySortedBy
IsLabelSet-nil = record { ascending = tt; valued = All-nil (λ (l : Label). l.value ≢ []) }

pub IsLabelSet-without : (name : List ℕ) (ls : List Label) → IsLabelSet ls → IsLabelSet (without_label name ls)
IsLabelSet-without name ls h = IsLabelSet-filter (λ (l : Label). not (bytes_eq l.name name)) ls h

-- the set of pairs with distinct names
pub IsLabelSet-label_set : (pairs : List Label) → IsDistinct same_name pairs → IsLabelSet (label_set pairs)
IsLabelSet-label_set pairs h = record {
  ascending = sorted_ascending (filter has_value pairs) (distinct_kept same_name has_value pairs h);
  valued = All-permutation (λ (l : Label). l.value ≢ []) (filter has_value pairs) (labels_sorted (filter has_value pairs)) (sorted_moves (filter has_value pairs))
      (All-weaker (λ (l : Label). has_value l ≡ true) (λ (l : Label). l.value ≢ []) has_some (filter has_value pairs) (filter_passes has_value pairs));
}
