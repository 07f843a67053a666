-- Laws on lists: keys of which each stands once, pairs made from keys, the last that passes a test.
use Rattle.std.proofs.Common.{◌≡◌, Bool, true, false, cond, not, ◌&&◌, ◌||◌, List, [], ◌∷◌, ◌++◌, map, filter, filter_map, find, reverse, Option, Some, None, option_map, refl, sym, ap, subst, ◌∙◌, ◌⊎◌, inl, inr}
use Rattle.std.specs.Prelude.{⊤}
use Rattle.std.proofs.lemmas.List.{append-nil}
use Rattle.std.proofs.lemmas.List.Elements.{filter-append, filter_map-append}
use Rattle.std.proofs.lemmas.List.Folds.{list_all-append}
use Rattle.std.specs.List.{list_any, list_all, last_or, cons_option}
use Rattle.std.specs.Option.{option_or}
use Rattle.std.specs.Map.{lookup}
use Rattle.label_sets.specs.Lists.{first_of_each, first_some, some_passes}
use Rattle.label_sets.proofs.Laws.{same_tests}
use Rattle.page_model.proofs.Laws.{Member}
use mathlib.Core.List.{reverse-cons}

-- ---- tests

pub and_true : (a : Bool) → (a && true) ≡ a
and_true true = refl
and_true false = refl

and_swap : (a b : Bool) → (a && b) ≡ (b && a)
and_swap true true = refl
and_swap true false = refl
and_swap false true = refl
and_swap false false = refl

-- ---- a list turned round

pub list_all-reverse : {A : Type 0} (p : A → Bool) (xs : List A) → list_all p (reverse xs) ≡ list_all p xs
list_all-reverse p [] = refl
list_all-reverse p (x ∷ xs) = ap (list_all p) (reverse-cons x xs) ∙ list_all-append p (reverse xs) (x ∷ [])
    ∙ ap (λ b. list_all p (reverse xs) && b) (and_true (p x)) ∙ and_swap (list_all p (reverse xs)) (p x) ∙ ap (λ b. p x && b) (list_all-reverse p xs)

pub last_or-snoc : {A : Type 0} (o : Option A) (xs : List A) (x : A) → last_or o (xs ++ x ∷ []) ≡ Some x
last_or-snoc o [] x = refl
last_or-snoc o (y ∷ ys) x = last_or-snoc (Some y) ys x

-- the last value in page order is the first one looking back
pub last_or-reverse : {A B : Type 0} (f : A → Option B) (xs : List A) → last_or None (filter_map f (reverse xs)) ≡ first_some f xs
last_or-reverse f [] = refl
last_or-reverse {A = A} {B = B} f (x ∷ xs) = ap (λ l. last_or None (filter_map f l)) (reverse-cons x xs) ∙ ap (last_or None) (filter_map-append f (reverse xs) (x ∷ [])) ∙ by (f x) (last_or-reverse f xs)
  where
    by : (o : Option B) → last_or None (filter_map f (reverse xs)) ≡ first_some f xs → last_or None (filter_map f (reverse xs) ++ cons_option o []) ≡ option_or o (first_some f xs)
    by None rest = ap (last_or None) (append-nil (filter_map f (reverse xs))) ∙ rest
    by (Some y) rest = last_or-snoc None (filter_map f (reverse xs)) y

-- ---- elements

member-append : {A : Type 0} (xs ys : List A) (x : A) → Member x (xs ++ ys) → Member x xs ⊎ Member x ys
member-append [] ys x m = inr m
member-append (y ∷ xs) ys x (inl e) = inl (inl e)
member-append (y ∷ xs) ys x (inr m) = by (member-append xs ys x m)
  where
    by : Member x xs ⊎ Member x ys → Member x (y ∷ xs) ⊎ Member x ys
    by (inl k) = inl (inr k)
    by (inr k) = inr k

pub member-reverse : {A : Type 0} (xs : List A) (x : A) → Member x (reverse xs) → Member x xs
member-reverse [] x m = m
member-reverse (y ∷ xs) x m = by (member-append (reverse xs) (y ∷ []) x (subst (Member x) (reverse-cons y xs) m)) (member-reverse xs x)
  where
    by : Member x (reverse xs) ⊎ Member x (y ∷ []) → (Member x (reverse xs) → Member x xs) → Member x (y ∷ xs)
    by (inl k) more = inr (more k)
    by (inr (inl e)) more = inl e
    by (inr (inr k)) more = absurd k

pub member-filter : {A : Type 0} (t : A → Bool) (xs : List A) (x : A) → Member x (filter t xs) → Member x xs × (t x ≡ true)
member-filter t [] x m = absurd m
member-filter t (y ∷ ys) x m = by (t y) refl m (member-filter t ys x)
  where
    by : (b : Bool) → t y ≡ b → Member x (cond b (y ∷ filter t ys) (filter t ys)) → (Member x (filter t ys) → Member x ys × (t x ≡ true)) → Member x (y ∷ ys) × (t x ≡ true)
    by true e (inl k) more = (inl k, ap t k ∙ e)
    by true e (inr k) more = let r = more k in (inr r.0, r.1)
    by false e k more = let r = more k in (inr r.0, r.1)

pub find-member : {A : Type 0} (t : A → Bool) (xs : List A) (x : A) → find t xs ≡ Some x → Member x xs × (t x ≡ true)
find-member t [] x e = absurd cc
find-member t (y ∷ ys) x e = by (t y) refl e (find-member t ys x)
  where
    by : (b : Bool) → t y ≡ b → cond b (Some y) (find t ys) ≡ Some x → (find t ys ≡ Some x → Member x ys × (t x ≡ true)) → Member x (y ∷ ys) × (t x ≡ true)
    by true k f more = let same : x ≡ y = cc in (inl same, ap t same ∙ k)
    by false k f more = let r = more f in (inr r.0, r.1)

pub list_all-agree : {A : Type 0} (p q : A → Bool) (xs : List A) → ((x : A) → Member x xs → p x ≡ q x) → list_all p xs ≡ list_all q xs
list_all-agree p q [] same = refl
list_all-agree p q (x ∷ xs) same = let first = same x (inl refl) in let rest = list_all-agree p q xs (λ y m. same y (inr m)) in λ i. first i && rest i

pub list_any-agree : {A : Type 0} (p q : A → Bool) (xs : List A) → ((x : A) → Member x xs → p x ≡ q x) → list_any p xs ≡ list_any q xs
list_any-agree p q [] same = refl
list_any-agree p q (x ∷ xs) same = let first = same x (inl refl) in let rest = list_any-agree p q xs (λ y m. same y (inr m)) in λ i. first i || rest i

-- ---- filters, and values that some elements have

pub filter-map : {A B : Type 0} (t : B → Bool) (f : A → B) (xs : List A) → filter t (map f xs) ≡ map f (filter (λ x. t (f x)) xs)
filter-map t f [] = refl
filter-map {A = A} {B = B} t f (x ∷ xs) = by (t (f x)) (filter-map t f xs)
  where
    by : (b : Bool) → filter t (map f xs) ≡ map f (filter (λ y. t (f y)) xs) → cond b (f x ∷ filter t (map f xs)) (filter t (map f xs)) ≡ map f (cond b (x ∷ filter (λ y. t (f y)) xs) (filter (λ y. t (f y)) xs))
    by true more = ap (λ l. f x ∷ l) more
    by false more = more

-- a value of an element that passes
abbrev pub when : {B : Type 0} → Bool → Option B → Option B
when b o = cond b o None

pub filter_map-filter : {A B : Type 0} (f : A → Option B) (t : A → Bool) (xs : List A) → filter_map f (filter t xs) ≡ filter_map (λ x. when (t x) (f x)) xs
filter_map-filter f t [] = refl
filter_map-filter {A = A} {B = B} f t (x ∷ xs) = by (t x) (filter_map-filter f t xs)
  where
    by : (b : Bool) → filter_map f (filter t xs) ≡ filter_map (λ y. when (t y) (f y)) xs → filter_map f (cond b (x ∷ filter t xs) (filter t xs)) ≡ cons_option (when b (f x)) (filter_map (λ y. when (t y) (f y)) xs)
    by true more = ap (cons_option (f x)) more
    by false more = more

pub filter_map-map : {A B C : Type 0} (g : B → Option C) (f : A → B) (xs : List A) → filter_map g (map f xs) ≡ filter_map (λ x. g (f x)) xs
filter_map-map g f [] = refl
filter_map-map g f (x ∷ xs) = ap (cons_option (g (f x))) (filter_map-map g f xs)

pub first_some-map : {A B C : Type 0} (g : B → Option C) (f : A → B) (xs : List A) → first_some g (map f xs) ≡ first_some (λ x. g (f x)) xs
first_some-map g f [] = refl
first_some-map g f (x ∷ xs) = ap (option_or (g (f x))) (first_some-map g f xs)

pub filter_map-agree : {A B : Type 0} (f g : A → Option B) (xs : List A) → ((x : A) → Member x xs → f x ≡ g x) → filter_map f xs ≡ filter_map g xs
filter_map-agree f g [] same = refl
filter_map-agree f g (x ∷ xs) same = let first = same x (inl refl) in let rest = filter_map-agree f g xs (λ y m. same y (inr m)) in λ i. cons_option (first i) (rest i)

pub first_some-agree : {A B : Type 0} (f g : A → Option B) (xs : List A) → ((x : A) → Member x xs → f x ≡ g x) → first_some f xs ≡ first_some g xs
first_some-agree f g [] same = refl
first_some-agree f g (x ∷ xs) same = let first = same x (inl refl) in let rest = first_some-agree f g xs (λ y m. same y (inr m)) in λ i. option_or (first i) (rest i)

-- each element that passes has its value
pub filter_map-when : {A B : Type 0} (t : A → Bool) (v : A → B) (xs : List A) → filter_map (λ x. when (t x) (Some (v x))) xs ≡ map v (filter t xs)
filter_map-when t v [] = refl
filter_map-when {A = A} {B = B} t v (x ∷ xs) = by (t x) (filter_map-when t v xs)
  where
    by : (b : Bool) → filter_map (λ y. when (t y) (Some (v y))) xs ≡ map v (filter t xs) → cons_option (when b (Some (v x))) (filter_map (λ y. when (t y) (Some (v y))) xs) ≡ map v (cond b (x ∷ filter t xs) (filter t xs))
    by true more = ap (λ l. v x ∷ l) more
    by false more = more

-- the first of those values is that of the first element that passes
pub first_some-when : {A B : Type 0} (f : A → Option B) (t : A → Bool) (v : A → B) (xs : List A) → ((x : A) → Member x xs → f x ≡ when (t x) (Some (v x))) → first_some f xs ≡ option_map v (find t xs)
first_some-when f t v [] same = refl
first_some-when {A = A} {B = B} f t v (x ∷ xs) same = ap (λ o. option_or o (first_some f xs)) (same x (inl refl)) ∙ by (t x) (first_some-when f t v xs (λ y m. same y (inr m)))
  where
    by : (b : Bool) → first_some f xs ≡ option_map v (find t xs) → option_or (when b (Some (v x))) (first_some f xs) ≡ option_map v (cond b (Some x) (find t xs))
    by true more = refl
    by false more = more

-- no element passes, so none is found
pub find-none : {A : Type 0} (t : A → Bool) (xs : List A) → ((x : A) → Member x xs → t x ≡ false) → find t xs ≡ None
find-none t [] none = refl
find-none t (x ∷ xs) none = rw (none x (inl refl)) (find-none t xs (λ y m. none y (inr m)))

-- the first element
abbrev pub head_of : {A : Type 0} → List A → Option A
head_of [] = None
head_of (x ∷ xs) = Some x

pub first_some-head : {A B : Type 0} (f : A → Option B) (xs : List A) → first_some f xs ≡ head_of (filter_map f xs)
first_some-head f [] = refl
first_some-head {A = A} {B = B} f (x ∷ xs) = by (f x) (first_some-head f xs)
  where
    by : (o : Option B) → first_some f xs ≡ head_of (filter_map f xs) → option_or o (first_some f xs) ≡ head_of (cons_option o (filter_map f xs))
    by None more = more
    by (Some y) more = refl

-- a value, where there is one, passes
abbrev pub none_or : {B : Type 0} → (B → Bool) → Option B → Bool
none_or p None = true
none_or p (Some y) = p y

pub list_all-filter_map : {A B : Type 0} (p : B → Bool) (f : A → Option B) (xs : List A) → list_all p (filter_map f xs) ≡ list_all (λ x. none_or p (f x)) xs
list_all-filter_map p f [] = refl
list_all-filter_map {A = A} {B = B} p f (x ∷ xs) = by (f x) (list_all-filter_map p f xs)
  where
    by : (o : Option B) → list_all p (filter_map f xs) ≡ list_all (λ y. none_or p (f y)) xs → list_all p (cons_option o (filter_map f xs)) ≡ (none_or p o && list_all (λ y. none_or p (f y)) xs)
    by None more = more
    by (Some y) more = ap (λ b. p y && b) more

pub list_any-filter_map : {A B : Type 0} (p : B → Bool) (f : A → Option B) (xs : List A) → list_any p (filter_map f xs) ≡ list_any (λ x. some_passes p (f x)) xs
list_any-filter_map p f [] = refl
list_any-filter_map {A = A} {B = B} p f (x ∷ xs) = by (f x) (list_any-filter_map p f xs)
  where
    by : (o : Option B) → list_any p (filter_map f xs) ≡ list_any (λ y. some_passes p (f y)) xs → list_any p (cons_option o (filter_map f xs)) ≡ (some_passes p o || list_any (λ y. some_passes p (f y)) xs)
    by None more = more
    by (Some y) more = ap (λ b. p y || b) more

-- ---- keys, where a test decides that two are one

module _ {K : Type 0} (eq : K → K → Bool) (decides : (a b : K) → (eq a b ≡ true → a ≡ b) × (a ≡ b → eq a b ≡ true)) where
  pub eq_swap : (a b : K) → eq a b ≡ eq b a
  eq_swap a b = same_tests (eq a b) (eq b a) (λ e. (decides b a).1 (sym ((decides a b).0 e))) (λ e. (decides a b).1 (sym ((decides b a).0 e)))

  -- the key is among the keys
  abbrev pub has_key : K → List K → Bool
  has_key k ks = list_any (eq k) ks

  -- no key stands twice
  abbrev pub AreApart : List K → Type 0
  AreApart [] = ⊤
  AreApart (k ∷ ks) = (has_key k ks ≡ false) × AreApart ks

  -- a filter that keeps the key
  has_key-kept : (t : K → Bool) (k : K) (ks : List K) → t k ≡ true → has_key k (filter t ks) ≡ has_key k ks
  has_key-kept t k [] h = refl
  has_key-kept t k (x ∷ xs) h = by (eq k x) (t x) refl refl (has_key-kept t k xs h)
    where
      by : (b c : Bool) → eq k x ≡ b → t x ≡ c → has_key k (filter t xs) ≡ has_key k xs → has_key k (cond c (x ∷ filter t xs) (filter t xs)) ≡ (b || has_key k xs)
      by true true e f more = ap (λ d. d || has_key k (filter t xs)) e
      by false true e f more = ap (λ d. d || has_key k (filter t xs)) e ∙ more
      by true false e f more = absurd (let g : t k ≡ t x = ap t ((decides k x).0 e) in let c : true ≡ false = sym h ∙ g ∙ f in cc)
      by false false e f more = more

  -- a filter that leaves the key out
  has_key-dropped : (t : K → Bool) (k : K) (ks : List K) → t k ≡ false → has_key k (filter t ks) ≡ false
  has_key-dropped t k [] h = refl
  has_key-dropped t k (x ∷ xs) h = by (eq k x) (t x) refl refl (has_key-dropped t k xs h)
    where
      by : (b c : Bool) → eq k x ≡ b → t x ≡ c → has_key k (filter t xs) ≡ false → has_key k (cond c (x ∷ filter t xs) (filter t xs)) ≡ false
      by b false e f more = more
      by false true e f more = ap (λ d. d || has_key k (filter t xs)) e ∙ more
      by true true e f more = absurd (let g : t k ≡ t x = ap t ((decides k x).0 e) in let c : false ≡ true = sym h ∙ g ∙ f in cc)

  -- the first of each are the same keys
  pub has_key-first : (k : K) (ks : List K) → has_key k (first_of_each eq ks) ≡ has_key k ks
  has_key-first k [] = refl
  has_key-first k (x ∷ xs) = by (eq k x) refl (has_key-first k xs)
    where
      by : (b : Bool) → eq k x ≡ b → has_key k (first_of_each eq xs) ≡ has_key k xs → (b || has_key k (filter (λ y. not (eq x y)) (first_of_each eq xs))) ≡ (b || has_key k xs)
      by true e more = refl
      by false e more = has_key-kept (λ y. not (eq x y)) k (first_of_each eq xs) (ap not (eq_swap x k ∙ e)) ∙ more

  filter_apart : (t : K → Bool) (ks : List K) → AreApart ks → AreApart (filter t ks)
  filter_apart t [] d = tt
  filter_apart t (x ∷ xs) d = by (t x) refl (filter_apart t xs d.1)
    where
      by : (b : Bool) → t x ≡ b → AreApart (filter t xs) → AreApart (cond b (x ∷ filter t xs) (filter t xs))
      by true e more = (has_key-kept t x xs e ∙ d.0, more)
      by false e more = more

  -- each of them stands once
  pub first_apart : (ks : List K) → AreApart (first_of_each eq ks)
  first_apart [] = tt
  first_apart (x ∷ xs) = (has_key-dropped (λ y. not (eq x y)) x (first_of_each eq xs) (ap not ((decides x x).1 refl)), filter_apart (λ y. not (eq x y)) (first_of_each eq xs) (first_apart xs))

  -- the keys and this one, where it is new
  abbrev pub with_key : List K → K → List K
  with_key ks k = cond (has_key k ks) ks (ks ++ k ∷ [])

  pub first_of_each-snoc : (ks : List K) (k : K) → first_of_each eq (ks ++ k ∷ []) ≡ with_key (first_of_each eq ks) k
  first_of_each-snoc [] k = refl
  first_of_each-snoc (x ∷ xs) k = ap (λ l. x ∷ filter (λ y. not (eq x y)) l) (first_of_each-snoc xs k) ∙ by (eq k x) (has_key k (first_of_each eq xs)) refl refl
    where
      by : (b c : Bool) → eq k x ≡ b → has_key k (first_of_each eq xs) ≡ c → x ∷ filter (λ y. not (eq x y)) (cond c (first_of_each eq xs) (first_of_each eq xs ++ k ∷ []))
          ≡ cond (b || has_key k (filter (λ y. not (eq x y)) (first_of_each eq xs))) (x ∷ filter (λ y. not (eq x y)) (first_of_each eq xs)) (x ∷ (filter (λ y. not (eq x y)) (first_of_each eq xs) ++ k ∷ []))
      by true true e f = refl
      by true false e f = ap (λ l. x ∷ l) (filter-append (λ y. not (eq x y)) (first_of_each eq xs) (k ∷ [])
          ∙ ap (λ b. filter (λ y. not (eq x y)) (first_of_each eq xs) ++ cond (not b) (k ∷ []) []) (eq_swap x k ∙ e) ∙ append-nil (filter (λ y. not (eq x y)) (first_of_each eq xs)))
      by false true e f = rw (has_key-kept (λ y. not (eq x y)) k (first_of_each eq xs) (ap not (eq_swap x k ∙ e)), f) refl
      by false false e f = rw (has_key-kept (λ y. not (eq x y)) k (first_of_each eq xs) (ap not (eq_swap x k ∙ e)), f)
          (ap (λ l. x ∷ l) (filter-append (λ y. not (eq x y)) (first_of_each eq xs) (k ∷ []) ∙ ap (λ b. filter (λ y. not (eq x y)) (first_of_each eq xs) ++ cond (not b) (k ∷ []) []) (eq_swap x k ∙ e)))

  -- all keys pass where the first of each do
  pub list_all-first : (p : K → Bool) (ks : List K) → list_all p (first_of_each eq ks) ≡ list_all p ks
  list_all-first p [] = refl
  list_all-first p (x ∷ xs) = by (p x) refl ∙ ap (λ b. p x && b) (list_all-first p xs)
    where
      kept : p x ≡ true → (ys : List K) → list_all p (filter (λ y. not (eq x y)) ys) ≡ list_all p ys
      kept e [] = refl
      kept e (y ∷ ys) = one (eq x y) refl (kept e ys)
        where
          one : (b : Bool) → eq x y ≡ b → list_all p (filter (λ z. not (eq x z)) ys) ≡ list_all p ys → list_all p (cond (not b) (y ∷ filter (λ z. not (eq x z)) ys) (filter (λ z. not (eq x z)) ys)) ≡ (p y && list_all p ys)
          one true f more = let g : p y ≡ true = ap p (sym ((decides x y).0 f)) ∙ e in rw g more
          one false f more = ap (λ b. p y && b) more

      by : (b : Bool) → p x ≡ b → (p x && list_all p (filter (λ y. not (eq x y)) (first_of_each eq xs))) ≡ (p x && list_all p (first_of_each eq xs))
      by true e = ap (λ b. p x && b) (kept e (first_of_each eq xs))
      by false e = rw e refl

  -- ---- pairs of a key and its value

  module _ {V : Type 0} where
    -- the keys with their values
    abbrev pub keyed : (K → V) → List K → List (K × V)
    keyed g ks = map (λ k. (k, g k)) ks

    pub lookup-keyed : (g : K → V) (k : K) (ks : List K) → lookup (eq k) (keyed g ks) ≡ when (has_key k ks) (Some (g k))
    lookup-keyed g k [] = refl
    lookup-keyed g k (x ∷ xs) = by (eq k x) refl (lookup-keyed g k xs)
      where
        by : (b : Bool) → eq k x ≡ b → lookup (eq k) (keyed g xs) ≡ when (has_key k xs) (Some (g k)) → cond b (Some (g x)) (lookup (eq k) (keyed g xs)) ≡ when (b || has_key k xs) (Some (g k))
        by true e more = ap (λ l. Some (g l)) (sym ((decides k x).0 e))
        by false e more = more

    pub keyed_agree : (g h : K → V) (k : K) (ks : List K) → ((l : K) → eq k l ≡ false → h l ≡ g l) → has_key k ks ≡ false → keyed g ks ≡ keyed h ks
    keyed_agree g h k [] same none = refl
    keyed_agree g h k (x ∷ xs) same none = by (eq k x) refl none (keyed_agree g h k xs same)
      where
        by : (b : Bool) → eq k x ≡ b → (b || has_key k xs) ≡ false → (has_key k xs ≡ false → keyed g xs ≡ keyed h xs) → keyed g (x ∷ xs) ≡ keyed h (x ∷ xs)
        by true e f more = absurd (let c : true ≡ false = f in cc)
        by false e f more = let rest = more f in let first = sym (same x e) in λ i. (x, first i) ∷ rest i
