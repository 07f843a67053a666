-- Laws on lists, options and tests that several crates need.
use Rattle.std.proofs.Common.{◌≡◌, ℕ, suc, Bool, true, false, cond, ◌||◌, List, [], ◌∷◌, ◌++◌, map, filter, reverse, length, Option, Some, None, option_map, refl, sym, ap, subst, ◌∙◌}
use Rattle.std.specs.List.{list_any, AllByRecursion}
use Rattle.std.specs.Option.{option_or}
use Rattle.std.specs.Str.{bytes_eq}
use Rattle.std.specs.Cmp.Lexicographic.{nat_list_eq_equiv}
use Rattle.std.proofs.lemmas.Bool.{or_parts}
use Rattle.std.proofs.lemmas.List.{reverse-append}
use Rattle.std.proofs.lemmas.List.Sorted.{IsPermutation-reverse, list_any-IsPermutation}
use Rattle.std.proofs.Math.Numerals.{one-add}
use Rattle.label_sets.specs.declared.label.Label.{Label}
use Rattle.label_sets.specs.Lists.{rest_while, when_true}
use Rattle.label_sets.specs.Labels.{name_before, label_inserted}

-- ---- tests

-- two tests that pass together are one
pub same_tests : (a b : Bool) → (a ≡ true → b ≡ true) → (b ≡ true → a ≡ true) → a ≡ b
same_tests true b f g = sym (f refl)
same_tests false true f g = g refl
same_tests false false f g = refl

pub bytes_eq-swap : (a b : List ℕ) → bytes_eq a b ≡ bytes_eq b a
bytes_eq-swap a b = nat_list_eq_equiv.symm a b

-- ---- what is not there

-- where neither of two is there, neither is
pub option_or-none : {A : Type 0} (a b : Option A) → option_or a b ≡ None → (a ≡ None) × (b ≡ None)
option_or-none None b h = (refl, h)
option_or-none (Some x) b h = absurd (let f : Some x ≡ None = h in cc)

-- what maps to none is none
pub option_map-none : {A B : Type 0} (f : A → B) (o : Option A) → option_map f o ≡ None → o ≡ None
option_map-none f None h = refl
option_map-none f (Some x) h = absurd (let g : Some (f x) ≡ None = h in cc)

-- a test that gives no value failed
pub when_true-none : {A : Type 0} (b : Bool) (x : A) → when_true b x ≡ None → b ≡ false
when_true-none true x h = absurd (let f : Some x ≡ None = h in cc)
when_true-none false x h = refl

-- ---- each of a list

pub all-append : {A : Type 0} (P : A → Type 0) (xs ys : List A) → AllByRecursion P xs → AllByRecursion P ys → AllByRecursion P (xs ++ ys)
all-append P [] ys h k = k
all-append P (x ∷ xs) ys h k = (h.0, all-append P xs ys h.1 k)

pub all-front : {A : Type 0} (P : A → Type 0) (xs ys : List A) → AllByRecursion P (xs ++ ys) → AllByRecursion P xs
all-front P [] ys h = tt
all-front P (x ∷ xs) ys h = (h.0, all-front P xs ys h.1)

pub all-behind : {A : Type 0} (P : A → Type 0) (xs ys : List A) → AllByRecursion P (xs ++ ys) → AllByRecursion P ys
all-behind P [] ys h = h
all-behind P (x ∷ xs) ys h = all-behind P xs ys h.1

pub all-reverse : {A : Type 0} (P : A → Type 0) (xs : List A) → AllByRecursion P xs → AllByRecursion P (reverse xs)
all-reverse P [] h = tt
all-reverse P (x ∷ xs) h = subst (AllByRecursion P) (sym (reverse-append (x ∷ []) xs)) (all-append P (reverse xs) (x ∷ []) (all-reverse P xs h.1) (h.0, tt))

pub all-weaker : {A : Type 0} (P Q : A → Type 0) → ((x : A) → P x → Q x) → (xs : List A) → AllByRecursion P xs → AllByRecursion Q xs
all-weaker P Q more [] h = tt
all-weaker P Q more (x ∷ xs) h = (more x h.0, all-weaker P Q more xs h.1)

-- what is true of each element is true of those that are kept
pub all-filter : {A : Type 0} (P : A → Type 0) (p : A → Bool) (xs : List A) → AllByRecursion P xs → AllByRecursion P (filter p xs)
all-filter P p [] h = tt
all-filter P p (x ∷ xs) h = go (p x) (all-filter P p xs h.1)
  where
    go : (b : Bool) → AllByRecursion P (filter p xs) → AllByRecursion P (cond b (x ∷ filter p xs) (filter p xs))
    go true ih = (h.0, ih)
    go false ih = ih

-- those that are kept pass the test
pub filter-passes : {A : Type 0} (p : A → Bool) (xs : List A) → AllByRecursion (λ x. p x ≡ true) (filter p xs)
filter-passes p [] = tt
filter-passes p (x ∷ xs) = go (p x) refl (filter-passes p xs)
  where
    go : (b : Bool) → p x ≡ b → AllByRecursion (λ y. p y ≡ true) (filter p xs) → AllByRecursion (λ y. p y ≡ true) (cond b (x ∷ filter p xs) (filter p xs))
    go true e ih = (e, ih)
    go false e ih = ih

-- ---- whether one of a list passes

pub any-map : {A B : Type 0} (p : B → Bool) (f : A → B) (xs : List A) → list_any p (map f xs) ≡ list_any (λ x. p (f x)) xs
any-map p f [] = refl
any-map p f (x ∷ xs) = ap (λ b. p (f x) || b) (any-map p f xs)

pub any-reverse : {A : Type 0} (p : A → Bool) (xs : List A) → list_any p (reverse xs) ≡ list_any p xs
any-reverse p xs = sym (list_any-IsPermutation p xs (reverse xs) (IsPermutation-reverse xs))

pub filter-none : {A : Type 0} (p : A → Bool) (xs : List A) → list_any p xs ≡ false → filter p xs ≡ []
filter-none p [] h = refl
filter-none p (x ∷ xs) h = let both = or_parts (p x) (list_any p xs) h in ap (λ b. cond b (x ∷ filter p xs) (filter p xs)) both.0 ∙ filter-none p xs both.1

-- ---- the rest behind a front that passes

pub rest-passed : {A : Type 0} (p : A → Bool) (x : A) (xs : List A) → p x ≡ true → rest_while p (x ∷ xs) ≡ rest_while p xs
rest-passed p x xs e = rw (e, one-add) refl

pub rest-stopped : {A : Type 0} (p : A → Bool) (x : A) (xs : List A) → p x ≡ false → rest_while p (x ∷ xs) ≡ x ∷ xs
rest-stopped p x xs e = rw e refl

pub rest-none : {A : Type 0} (p : A → Bool) (xs : List A) → list_any p xs ≡ false → list_any p (rest_while p xs) ≡ false
rest-none p [] e = refl
rest-none p (x ∷ xs) e = let both = or_parts (p x) (list_any p xs) e in ap (list_any p) (rest-stopped p x xs both.0) ∙ e

-- ---- labels

-- a label that is put in its place is one more
pub length-inserted : (l : Label) (ls : List Label) → length (label_inserted l ls) ≡ suc (length ls)
length-inserted l [] = refl
length-inserted l (m ∷ ms) = go (name_before l.name m.name) (length-inserted l ms)
  where
    go : (b : Bool) → length (label_inserted l ms) ≡ suc (length ms) → length (cond b (l ∷ m ∷ ms) (m ∷ label_inserted l ms)) ≡ suc (suc (length ms))
    go true ih = refl
    go false ih = ap suc ih
