-- Values by a key of bytes: one value more, and the values of one key changed.
use Rattle.std.proofs.Common.{◌≡◌, ℕ, zero, suc, Bool, true, false, cond, not, ◌||◌, List, [], ◌∷◌, ◌++◌, map, filter, get_or, set, Some, refl, sym, ap, ◌∙◌}
use Rattle.std.specs.Prelude.{slice_get}
use Rattle.std.specs.List.{IsDistinct, AllByRecursion, list_any}
use Rattle.std.specs.Str.{bytes_eq}
use Rattle.std.specs.Cmp.Lexicographic.{bytes_decides, nat_list_eq_equiv}
use Rattle.std.proofs.lemmas.List.{append-nil}
use Rattle.std.proofs.lemmas.List.Elements.{filter-append}
use Rattle.label_sets.specs.Lists.{first_of_each}
use Rattle.label_sets.proofs.Laws.{any-map, distinct_kept, bytes_eq-swap}

module _ {A : Type 0} (id : A → List ℕ) where
  -- two values have one key
  abbrev pub same : A → A → Bool
  same x y = bytes_eq (id x) (id y)

  -- the first of each key
  abbrev pub firsts : List A → List A
  firsts xs = first_of_each same xs

  -- the values with the key of this one
  abbrev pub own : A → List A → List A
  own x xs = filter (same x) xs

  -- ---- one value more

  pub firsts-snoc : (xs : List A) (y : A) → firsts (xs ++ y ∷ []) ≡ cond (list_any (λ x. same x y) xs) (firsts xs) (firsts xs ++ y ∷ [])
  firsts-snoc [] y = refl
  firsts-snoc (x ∷ xs) y = ap (λ l. x ∷ filter (λ z. not (same x z)) l) (firsts-snoc xs y) ∙ by (same x y) (list_any (λ z. same z y) xs) refl
    where
      by : (b c : Bool) → same x y ≡ b → x ∷ filter (λ z. not (same x z)) (cond c (firsts xs) (firsts xs ++ y ∷ []))
          ≡ cond (b || c) (x ∷ filter (λ z. not (same x z)) (firsts xs)) (x ∷ (filter (λ z. not (same x z)) (firsts xs) ++ y ∷ []))
      by true true e = refl
      by false true e = refl
      by true false e = ap (λ l. x ∷ l) (filter-append (λ z. not (same x z)) (firsts xs) (y ∷ [])
          ∙ ap (λ b. filter (λ z. not (same x z)) (firsts xs) ++ cond (not b) (y ∷ []) []) e ∙ append-nil (filter (λ z. not (same x z)) (firsts xs)))
      by false false e = ap (λ l. x ∷ l) (filter-append (λ z. not (same x z)) (firsts xs) (y ∷ [])
          ∙ ap (λ b. filter (λ z. not (same x z)) (firsts xs) ++ cond (not b) (y ∷ []) []) e)

  -- a key is among the firsts where it is among all
  any_without : (k : List ℕ) (x : A) (xs : List A) → bytes_eq k (id x) ≡ false → list_any (λ z. bytes_eq k (id z)) (filter (λ z. not (same x z)) xs) ≡ list_any (λ z. bytes_eq k (id z)) xs
  any_without k x [] e = refl
  any_without k x (y ∷ ys) e = by (same x y) refl (any_without k x ys e)
    where
      by : (b : Bool) → same x y ≡ b → list_any (λ z. bytes_eq k (id z)) (filter (λ z. not (same x z)) ys) ≡ list_any (λ z. bytes_eq k (id z)) ys
          → list_any (λ z. bytes_eq k (id z)) (cond (not b) (y ∷ filter (λ z. not (same x z)) ys) (filter (λ z. not (same x z)) ys)) ≡ (bytes_eq k (id y) || list_any (λ z. bytes_eq k (id z)) ys)
      by false f ih = ap (λ b. bytes_eq k (id y) || b) ih
      by true f ih = ih ∙ ap (λ b. b || list_any (λ z. bytes_eq k (id z)) ys) (sym (ap (bytes_eq k) (sym ((bytes_decides (id x) (id y)).0 f)) ∙ e))

  pub any_firsts : (k : List ℕ) (xs : List A) → list_any (λ z. bytes_eq k (id z)) (firsts xs) ≡ list_any (λ z. bytes_eq k (id z)) xs
  any_firsts k [] = refl
  any_firsts k (x ∷ xs) = by (bytes_eq k (id x)) refl (any_firsts k xs)
    where
      by : (b : Bool) → bytes_eq k (id x) ≡ b → list_any (λ z. bytes_eq k (id z)) (firsts xs) ≡ list_any (λ z. bytes_eq k (id z)) xs
          → (b || list_any (λ z. bytes_eq k (id z)) (filter (λ z. not (same x z)) (firsts xs))) ≡ (b || list_any (λ z. bytes_eq k (id z)) xs)
      by true e ih = refl
      by false e ih = any_without k x (firsts xs) e ∙ ih

  -- a key is among those of the firsts where it is among those of all
  pub any_first : (k : List ℕ) (xs : List A) → list_any (bytes_eq k) (map id (firsts xs)) ≡ list_any (λ x. bytes_eq k (id x)) xs
  any_first k xs = any-map (bytes_eq k) id (firsts xs) ∙ any_firsts k xs

  pub any_turned : (y : A) (xs : List A) → list_any (λ x. same x y) xs ≡ list_any (λ x. bytes_eq (id y) (id x)) xs
  any_turned y xs = λ i. list_any (λ x. nat_list_eq_equiv.symm (id x) (id y) i) xs

  -- where no value has the key, no values are its own
  pub own_none : (k : List ℕ) (xs : List A) → list_any (λ z. bytes_eq k (id z)) xs ≡ false → filter (λ z. bytes_eq k (id z)) xs ≡ []
  own_none k [] e = refl
  own_none k (x ∷ xs) e = by (bytes_eq k (id x)) refl e (own_none k xs)
    where
      by : (b : Bool) → bytes_eq k (id x) ≡ b → (b || list_any (λ z. bytes_eq k (id z)) xs) ≡ false → (list_any (λ z. bytes_eq k (id z)) xs ≡ false → filter (λ z. bytes_eq k (id z)) xs ≡ [])
          → cond b (x ∷ filter (λ z. bytes_eq k (id z)) xs) (filter (λ z. bytes_eq k (id z)) xs) ≡ []
      by true f g ih = absurd cc
      by false f g ih = ih g

  -- ---- the values of one key changed

  module _ {B : Type 0} (f g : A → B) (h : B → B) (k : List ℕ) (other : (x : A) → bytes_eq k (id x) ≡ false → g x ≡ f x) where
    pub none_changed : (xs : List A) → list_any (bytes_eq k) (map id xs) ≡ false → map g xs ≡ map f xs
    none_changed [] e = refl
    none_changed (x ∷ xs) e = by (bytes_eq k (id x)) refl e (none_changed xs)
      where
        by : (b : Bool) → bytes_eq k (id x) ≡ b → (b || list_any (bytes_eq k) (map id xs)) ≡ false → (list_any (bytes_eq k) (map id xs) ≡ false → map g xs ≡ map f xs) → map g (x ∷ xs) ≡ map f (x ∷ xs)
        by true e t ih = absurd cc
        by false e t ih = ap (λ y. y ∷ map g xs) (other x e) ∙ ap (λ ys. f x ∷ ys) (ih t)

    rest_same : (x : A) (xs : List A) → id x ≡ k → AllByRecursion (λ y. same x y ≡ false) xs → map g xs ≡ map f xs
    rest_same x [] e all = refl
    rest_same x (y ∷ ys) e all = ap (λ z. z ∷ map g ys) (other y (ap (λ a. bytes_eq a (id y)) (sym e) ∙ all.0)) ∙ ap (λ zs. f y ∷ zs) (rest_same x ys e all.1)

    not_first : (x : A) (xs : List A) (at : ℕ) → AllByRecursion (λ y. same x y ≡ false) xs → slice_get (map id xs) at ≡ Some k → bytes_eq k (id x) ≡ false
    not_first x [] at all e = absurd cc
    not_first x (y ∷ ys) zero all e = let same_key : id y ≡ k = cc in bytes_eq-swap k (id x) ∙ ap (bytes_eq (id x)) (sym same_key) ∙ all.0
    not_first x (y ∷ ys) (suc at) all e = not_first x ys at all.1 e

    pub one_changed : (xs : List A) (at : ℕ) (d : B) → ((x : A) → id x ≡ k → g x ≡ h (f x)) → IsDistinct same xs → slice_get (map id xs) at ≡ Some k
        → map g xs ≡ set (map f xs) at (h (get_or (map f xs) at d))
    unfolding IsDistinct
    one_changed [] at d own distinct e = absurd cc
    one_changed (x ∷ xs) zero d own distinct e = let is : id x ≡ k = cc in ap (λ y. y ∷ map g xs) (own x is) ∙ ap (λ ys. h (f x) ∷ ys) (rest_same x xs is distinct.0)
    one_changed (x ∷ xs) (suc at) d own distinct e = ap (λ y. y ∷ map g xs) (other x (not_first x xs at distinct.0 e)) ∙ ap (λ ys. f x ∷ ys) (one_changed xs at d own distinct.1 e)

  -- no two firsts have one key
  others_pass : (x : A) (ys : List A) → AllByRecursion (λ y. same x y ≡ false) (filter (λ z. not (same x z)) ys)
  others_pass x [] = tt
  others_pass x (y ∷ ys) = by (same x y) refl (others_pass x ys)
    where
      by : (b : Bool) → same x y ≡ b → AllByRecursion (λ z. same x z ≡ false) (filter (λ z. not (same x z)) ys) → AllByRecursion (λ z. same x z ≡ false) (cond (not b) (y ∷ filter (λ z. not (same x z)) ys) (filter (λ z. not (same x z)) ys))
      by true e ih = ih
      by false e ih = (e, ih)

  pub firsts_distinct : (xs : List A) → IsDistinct same (firsts xs)
  unfolding IsDistinct
  firsts_distinct [] = tt
  firsts_distinct (x ∷ xs) = (others_pass x (firsts xs), distinct_kept same (λ z. not (same x z)) (firsts xs) (firsts_distinct xs))

  -- the value at a place with a key has it
  pub key_at : {B : Type 0} (f : A → B) (P : B → Type 0) (xs : List A) (at : ℕ) (k : List ℕ) (d : B) → ((x : A) → id x ≡ k → P (f x)) → slice_get (map id xs) at ≡ Some k → P (get_or (map f xs) at d)
  key_at f P [] at k d has e = absurd cc
  key_at f P (x ∷ xs) zero k d has e = let is : id x ≡ k = cc in has x is
  key_at f P (x ∷ xs) (suc at) k d has e = key_at f P xs at k d has e

  -- ---- values that pass a test on their keys

  module _ (q : A → Bool) (alike : (x y : A) → id x ≡ id y → q x ≡ q y) where
    swap_filters : (x : A) (ys : List A) → filter (λ z. not (same x z)) (filter q ys) ≡ filter q (filter (λ z. not (same x z)) ys)
    swap_filters x [] = refl
    swap_filters x (y ∷ ys) = by (q y) refl (same x y) refl (swap_filters x ys)
      where
        by : (b : Bool) → q y ≡ b → (c : Bool) → same x y ≡ c → filter (λ z. not (same x z)) (filter q ys) ≡ filter q (filter (λ z. not (same x z)) ys)
            → filter (λ z. not (same x z)) (filter q (y ∷ ys)) ≡ filter q (filter (λ z. not (same x z)) (y ∷ ys))
        by true e true f ih = rw (e, f) ih
        by true e false f ih = rw (e, f, e) (ap (λ zs. y ∷ zs) ih)
        by false e true f ih = rw (e, f) ih
        by false e false f ih = rw (e, f, e) ih

    absorbed : (x : A) (ys : List A) → q x ≡ false → filter q (filter (λ z. not (same x z)) ys) ≡ filter q ys
    absorbed x [] e = refl
    absorbed x (y ∷ ys) e = by (same x y) refl (absorbed x ys e)
      where
        by : (c : Bool) → same x y ≡ c → filter q (filter (λ z. not (same x z)) ys) ≡ filter q ys → filter q (filter (λ z. not (same x z)) (y ∷ ys)) ≡ filter q (y ∷ ys)
        by true f ih = let fails : q y ≡ false = alike y x (sym ((bytes_decides (id x) (id y)).0 f)) ∙ e in rw (f, fails) ih
        by false f ih = rw f (ap (λ zs. cond (q y) (y ∷ zs) zs) ih)

    pub firsts_filter : (xs : List A) → firsts (filter q xs) ≡ filter q (firsts xs)
    firsts_filter [] = refl
    firsts_filter (x ∷ xs) = by (q x) refl (firsts_filter xs)
      where
        by : (b : Bool) → q x ≡ b → firsts (filter q xs) ≡ filter q (firsts xs)
            → firsts (cond b (x ∷ filter q xs) (filter q xs)) ≡ cond b (x ∷ filter q (filter (λ z. not (same x z)) (firsts xs))) (filter q (filter (λ z. not (same x z)) (firsts xs)))
        by true e ih = ap (λ l. x ∷ filter (λ z. not (same x z)) l) ih ∙ ap (λ l. x ∷ l) (swap_filters x (firsts xs))
        by false e ih = ih ∙ sym (absorbed x (firsts xs) e)

    pub own_filter : (x : A) (xs : List A) → q x ≡ true → own x (filter q xs) ≡ own x xs
    own_filter x [] e = refl
    own_filter x (y ∷ ys) e = by (same x y) refl (q y) refl (own_filter x ys e)
      where
        by : (c : Bool) → same x y ≡ c → (b : Bool) → q y ≡ b → own x (filter q ys) ≡ own x ys → own x (filter q (y ∷ ys)) ≡ own x (y ∷ ys)
        by true f true g ih = rw (g, f) (ap (λ zs. y ∷ zs) ih)
        by true f false g ih = absurd (let no : true ≡ false = sym e ∙ (alike x y ((bytes_decides (id x) (id y)).0 f) ∙ g) in cc)
        by false f true g ih = rw (g, f) ih
        by false f false g ih = rw (g, f) ih
