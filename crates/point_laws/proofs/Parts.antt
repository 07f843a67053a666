-- A list by groups: those that pass the test of each group, one group after the other, and those of no group, are all of it.
use Rattle.std.proofs.Common.{◌≡◌, Bool, true, false, cond, not, ◌||◌, List, [], ◌∷◌, ◌++◌, map, filter, filter_map, Option, refl, sym, ap, subst, ◌∙◌}
use Rattle.std.specs.List.{IsDistinct, AllByRecursion, flat_map, list_any, cons_option}
use Rattle.std.specs.List.Sorted.{IsPermutation}
use Rattle.std.proofs.lemmas.Bool.{or_left, or_right, not-true}
use Rattle.std.proofs.lemmas.List.{append_assoc}
use Rattle.std.proofs.lemmas.List.Sorted.{IsPermutation-refl, IsPermutation-sym, IsPermutation-trans, IsPermutation-cons, IsPermutation-middle, IsPermutation-append_right}
use Rattle.label_sets.specs.Lists.{first_of_each}
use Rattle.label_sets.proofs.Laws.{all-weaker, all-filter, distinct_kept, filter-passes}

-- ---- lists

-- what is filtered of images is the images of what is filtered
pub filter-map : {A B : Type 0} (f : A → B) (p : B → Bool) (xs : List A) → filter p (map f xs) ≡ map f (filter (λ x. p (f x)) xs)
filter-map f p [] = refl
filter-map f p (x ∷ xs) = go (p (f x)) (filter-map f p xs)
  where
    go : (b : Bool) → filter p (map f xs) ≡ map f (filter (λ y. p (f y)) xs) → cond b (f x ∷ filter p (map f xs)) (filter p (map f xs)) ≡ map f (cond b (x ∷ filter (λ y. p (f y)) xs) (filter (λ y. p (f y)) xs))
    go true ih = ap (λ ys. f x ∷ ys) ih
    go false ih = ih

-- the first of each among images are the images of the first of each
pub firsts-map : {A B : Type 0} (f : A → B) (e : B → B → Bool) (xs : List A) → first_of_each e (map f xs) ≡ map f (first_of_each (λ x y. e (f x) (f y)) xs)
firsts-map f e [] = refl
firsts-map f e (x ∷ xs) = ap (λ ys. f x ∷ filter (λ y. not (e (f x) y)) ys) (firsts-map f e xs) ∙ ap (λ ys. f x ∷ ys) (filter-map f (λ y. not (e (f x) y)) (first_of_each (λ y z. e (f y) (f z)) xs))

-- what a function gives of images
pub filter_map-map : {A B C : Type 0} (f : A → B) (h : B → Option C) (xs : List A) → filter_map h (map f xs) ≡ filter_map (λ x. h (f x)) xs
filter_map-map f h [] = refl
filter_map-map f h (x ∷ xs) = ap (cons_option (h (f x))) (filter_map-map f h xs)

-- what passes two tests passes them in either order
pub filter-swap : {A : Type 0} (p q : A → Bool) (xs : List A) → filter p (filter q xs) ≡ filter q (filter p xs)
filter-swap p q [] = refl
filter-swap p q (x ∷ xs) = go (p x) refl (q x) refl (filter-swap p q xs)
  where
    go : (b : Bool) → p x ≡ b → (c : Bool) → q x ≡ c → filter p (filter q xs) ≡ filter q (filter p xs) → filter p (filter q (x ∷ xs)) ≡ filter q (filter p (x ∷ xs))
    go true e true f ih = rw (e, f, e) (ap (λ ys. x ∷ ys) ih)
    go true e false f ih = rw (e, f) ih
    go false e true f ih = rw (e, f, e) ih
    go false e false f ih = rw (e, f) ih

-- where all pass a test, none is taken away by it, and nothing is left by its contrary
pub all-pass : {A : Type 0} (p : A → Bool) (xs : List A) → AllByRecursion (λ x. p x ≡ true) xs → filter p xs ≡ xs
all-pass p [] h = refl
all-pass p (x ∷ xs) h = rw (h.0) (ap (λ ys. x ∷ ys) (all-pass p xs h.1))

pub none-left : {A : Type 0} (p : A → Bool) (xs : List A) → AllByRecursion (λ x. p x ≡ true) xs → filter (λ x. not (p x)) xs ≡ []
none-left p [] h = refl
none-left p (x ∷ xs) h = rw (h.0) (none-left p xs h.1)

-- what is distinct stays so behind other elements that differ from it
pub distinct-append : {A : Type 0} (e : A → A → Bool) (xs ys : List A) → IsDistinct e xs → IsDistinct e ys → AllByRecursion (λ x. AllByRecursion (λ y. e x y ≡ false) ys) xs → IsDistinct e (xs ++ ys)
unfolding IsDistinct
distinct-append e [] ys h k apart = k
distinct-append {A} e (x ∷ xs) ys h k apart = (both xs h.0, distinct-append e xs ys h.1 k apart.1)
  where
    both : (zs : List A) → AllByRecursion (λ z. e x z ≡ false) zs → AllByRecursion (λ z. e x z ≡ false) (zs ++ ys)
    both [] a = apart.0
    both (z ∷ zs) a = (a.0, both zs a.1)

pub firsts-distinct : {A : Type 0} (e : A → A → Bool) (xs : List A) → IsDistinct e (first_of_each e xs)
unfolding IsDistinct
firsts-distinct e [] = tt
firsts-distinct e (x ∷ xs) =
    (all-weaker (λ y. not (e x y) ≡ true) (λ y. e x y ≡ false) (λ y h. not-true (e x y) h) (filter (λ y. not (e x y)) (first_of_each e xs)) (filter-passes (λ y. not (e x y)) (first_of_each e xs)), distinct_kept e (λ y. not (e x y)) (first_of_each e xs) (firsts-distinct e xs))

-- what is true of each is true of the first of each
pub all-firsts : {A : Type 0} (P : A → Type 0) (e : A → A → Bool) (xs : List A) → AllByRecursion P xs → AllByRecursion P (first_of_each e xs)
all-firsts P e [] h = tt
all-firsts P e (x ∷ xs) h = (h.0, all-filter P (λ y. not (e x y)) (first_of_each e xs) (all-firsts P e xs h.1))

-- each of a list is among it
pub each-among : {A : Type 0} (e : A → A → Bool) → ((a : A) → e a a ≡ true) → (xs : List A) → AllByRecursion (λ k. list_any (λ x. e x k) xs ≡ true) xs
each-among e itself [] = tt
each-among e itself (x ∷ xs) =
    (or_left (e x x) (list_any (λ y. e y x) xs) (itself x), all-weaker (λ k. list_any (λ y. e y k) xs ≡ true) (λ k. (e x k || list_any (λ y. e y k) xs) ≡ true) (λ k h. or_right (e x k) (list_any (λ y. e y k) xs) h) xs (each-among e itself xs))

-- what holds of each image holds of the list of them
pub all-images : {A B : Type 0} (P : B → Type 0) (f : A → B) → ((a : A) → P (f a)) → (xs : List A) → AllByRecursion P (map f xs)
all-images P f each [] = tt
all-images P f each (x ∷ xs) = (each x, all-images P f each xs)

-- ---- the first of each

module _ {A : Type 0} (e : A → A → Bool) (then : (a b c : A) → e a b ≡ true → e b c ≡ true → e a c ≡ true) where
  any-without : (k x : A) (ys : List A) → e x k ≡ false → list_any (λ y. e y k) (filter (λ y. not (e x y)) ys) ≡ list_any (λ y. e y k) ys
  any-without k x [] apart = refl
  any-without k x (y ∷ ys) apart = go (e x y) refl (e y k) refl (any-without k x ys apart)
    where
      go : (b : Bool) → e x y ≡ b → (c : Bool) → e y k ≡ c → list_any (λ z. e z k) (filter (λ z. not (e x z)) ys) ≡ list_any (λ z. e z k) ys
          → list_any (λ z. e z k) (filter (λ z. not (e x z)) (y ∷ ys)) ≡ list_any (λ z. e z k) (y ∷ ys)
      go true f true g ih = absurd (let h : true ≡ false = sym (then x y k f g) ∙ apart in cc)
      go true f false g ih = rw (f, g) ih
      go false f true g ih = rw (f, g) refl
      go false f false g ih = rw (f, g) ih

  -- what is among a list is among the first of each
  pub any-firsts : (k : A) (xs : List A) → list_any (λ x. e x k) (first_of_each e xs) ≡ list_any (λ x. e x k) xs
  any-firsts k [] = refl
  any-firsts k (x ∷ xs) = go (e x k) refl (any-firsts k xs)
    where
      go : (b : Bool) → e x k ≡ b → list_any (λ y. e y k) (first_of_each e xs) ≡ list_any (λ y. e y k) xs → list_any (λ y. e y k) (first_of_each e (x ∷ xs)) ≡ list_any (λ y. e y k) (x ∷ xs)
      go true f ih = rw f refl
      go false f ih = rw f (any-without k x (first_of_each e xs) f ∙ ih)

-- ---- groups

-- those that pass a test, and behind them the others
parted : {A : Type 0} (p : A → Bool) (xs : List A) → IsPermutation xs (filter p xs ++ filter (λ x. not (p x)) xs)
parted p [] = IsPermutation-refl []
parted {A} p (x ∷ xs) = go (p x) (parted p xs)
  where
    go : (b : Bool) → IsPermutation xs (filter p xs ++ filter (λ y. not (p y)) xs)
        → IsPermutation (x ∷ xs) (cond b (x ∷ filter p xs) (filter p xs) ++ cond (not b) (x ∷ filter (λ y. not (p y)) xs) (filter (λ y. not (p y)) xs))
    go true ih = IsPermutation-cons x xs (filter p xs ++ filter (λ y. not (p y)) xs) ih
    go false ih = IsPermutation-trans (x ∷ xs) (x ∷ (filter p xs ++ filter (λ y. not (p y)) xs)) (filter p xs ++ x ∷ filter (λ y. not (p y)) xs)
        (IsPermutation-cons x xs (filter p xs ++ filter (λ y. not (p y)) xs) ih)
        (IsPermutation-sym (filter p xs ++ x ∷ filter (λ y. not (p y)) xs) (x ∷ (filter p xs ++ filter (λ y. not (p y)) xs)) (IsPermutation-middle (filter p xs) x (filter (λ y. not (p y)) xs)))

module _ {G X : Type 0} (test : G → X → Bool) where
  -- those of each group, one group after the other
  abbrev pub of_groups : List G → List X → List X
  of_groups gs xs = flat_map (λ (g : G). filter (test g) xs) gs

  -- the element is of one of the groups
  abbrev pub is_of_some : List G → X → Bool
  is_of_some gs x = list_any (λ (g : G). test g x) gs

  -- those of no group
  abbrev pub of_none : List G → List X → List X
  of_none gs xs = filter (λ (x : X). not (is_of_some gs x)) xs

  module _ (same : G → G → Bool) (apart : (g h : G) (x : X) → test g x ≡ true → test h x ≡ true → same g h ≡ true) where
    kept-by : (g h : G) → same g h ≡ false → (xs : List X) → filter (test h) (filter (λ x. not (test g x)) xs) ≡ filter (test h) xs
    kept-by g h differ [] = refl
    kept-by g h differ (x ∷ xs) = go (test g x) refl (test h x) refl (kept-by g h differ xs)
      where
        go : (b : Bool) → test g x ≡ b → (c : Bool) → test h x ≡ c → filter (test h) (filter (λ y. not (test g y)) xs) ≡ filter (test h) xs
            → filter (test h) (filter (λ y. not (test g y)) (x ∷ xs)) ≡ filter (test h) (x ∷ xs)
        go true e true f ih = absurd (let k : true ≡ false = sym (apart g h x e f) ∙ differ in cc)
        go true e false f ih = rw (e, f) ih
        go false e true f ih = rw (e, f) (ap (λ ys. x ∷ ys) ih)
        go false e false f ih = rw (e, f) ih

    groups-kept : (g : G) (gs : List G) → AllByRecursion (λ h. same g h ≡ false) gs → (xs : List X) → of_groups gs (filter (λ x. not (test g x)) xs) ≡ of_groups gs xs
    groups-kept g [] differ xs = refl
    groups-kept g (h ∷ gs) differ xs = λ i. kept-by g h differ.0 xs i ++ groups-kept g gs differ.1 xs i

    none-kept : (g : G) (gs : List G) (xs : List X) → of_none gs (filter (λ x. not (test g x)) xs) ≡ of_none (g ∷ gs) xs
    none-kept g gs [] = refl
    none-kept g gs (x ∷ xs) = go (test g x) refl (is_of_some gs x) refl (none-kept g gs xs)
      where
        go : (b : Bool) → test g x ≡ b → (c : Bool) → is_of_some gs x ≡ c → of_none gs (filter (λ y. not (test g y)) xs) ≡ of_none (g ∷ gs) xs
            → of_none gs (filter (λ y. not (test g y)) (x ∷ xs)) ≡ of_none (g ∷ gs) (x ∷ xs)
        go true e c f ih = rw e ih
        go false e true f ih = rw (e, f) ih
        go false e false f ih = rw (e, f) (ap (λ ys. x ∷ ys) ih)

    -- all of a list, where no element is of two groups
    pub grouped : (gs : List G) → IsDistinct same gs → (xs : List X) → IsPermutation xs (of_groups gs xs ++ of_none gs xs)
    unfolding IsDistinct
    grouped [] differ xs = subst (IsPermutation xs) (sym (all-pass (λ (x : X). true) xs (each xs))) (IsPermutation-refl xs)
      where
        each : (ys : List X) → AllByRecursion (λ (y : X). true ≡ true) ys
        each [] = tt
        each (y ∷ ys) = (refl, each ys)
    grouped (g ∷ gs) differ xs =
        let own : List X = filter (test g) xs in
        let others : List X = filter (λ x. not (test g x)) xs in
        let rest : IsPermutation others (of_groups gs others ++ of_none gs others) = grouped gs differ.1 others in
        let turned : of_groups gs others ++ of_none gs others ≡ of_groups gs xs ++ of_none (g ∷ gs) xs = λ i. groups-kept g gs differ.0 xs i ++ none-kept g gs xs i in
        let moved : IsPermutation others (of_groups gs xs ++ of_none (g ∷ gs) xs) = subst (IsPermutation others) turned rest in
        let all : IsPermutation xs (own ++ (of_groups gs xs ++ of_none (g ∷ gs) xs)) =
        IsPermutation-trans xs (own ++ others) (own ++ (of_groups gs xs ++ of_none (g ∷ gs) xs)) (parted (test g) xs) (IsPermutation-append_right own others (of_groups gs xs ++ of_none (g ∷ gs) xs) moved) in
        subst (IsPermutation xs) (sym (append_assoc own (of_groups gs xs) (of_none (g ∷ gs) xs))) all
