-- Laws on lists: one element more at the end, and look-ups in a list of pairs that is made from names.
use Rattle.std.proofs.Common.{◌≡◌, ℕ, Bool, true, false, cond, not, ◌&&◌, ◌||◌, List, [], ◌∷◌, ◌++◌, map, filter, Option, Some, None, refl, sym, ap, ◌∙◌}
use Rattle.std.proofs.lemmas.List.{append-nil}
use Rattle.std.proofs.lemmas.List.Elements.{filter-append}
use Rattle.std.specs.List.{list_any}
use Rattle.std.specs.Option.{option_or}
use Rattle.std.specs.Str.{bytes_eq}
use Rattle.std.specs.Map.{lookup}
use Rattle.std.specs.Cmp.Lexicographic.{bytes_decides}
use Rattle.indexmap.specs.IndexMap.{insert_entry}
use Rattle.label_sets.specs.declared.label_set.LabelSet.{LabelSet}
use Rattle.label_sets.specs.Labels.{label_sets_eq}
use Rattle.label_sets.specs.Lists.{first_of_each, first_some}
use Rattle.label_sets.proofs.Laws.{bytes_eq-swap}

-- ---- tests

pub or_comm : (a b : Bool) → (a || b) ≡ (b || a)
or_comm true true = refl
or_comm true false = refl
or_comm false true = refl
or_comm false false = refl

-- a choice that answers nothing took the second branch, which answers nothing
pub cond_none : {A : Type 0} (b : Bool) (x : A) (r : Option A) → cond b (Some x) r ≡ None → (b ≡ false) × (r ≡ None)
cond_none true x r e = absurd (let f : Some x ≡ None = e in cc)
cond_none false x r e = (refl, e)

pub bytes_same : (a : List ℕ) → bytes_eq a a ≡ true
bytes_same a = (bytes_decides a a).1 refl

pub label_sets_swap : (a b : LabelSet) → label_sets_eq a b ≡ label_sets_eq b a
label_sets_swap [] [] = refl
label_sets_swap [] (y ∷ ys) = refl
label_sets_swap (x ∷ xs) [] = refl
label_sets_swap (x ∷ xs) (y ∷ ys) = ap (λ b. (b && bytes_eq x.value y.value) && label_sets_eq xs ys) (bytes_eq-swap x.name y.name)
    ∙ ap (λ b. (bytes_eq y.name x.name && b) && label_sets_eq xs ys) (bytes_eq-swap x.value y.value)
    ∙ ap (λ b. (bytes_eq y.name x.name && bytes_eq y.value x.value) && b) (label_sets_swap xs ys)

-- ---- one element more at the end

pub first_of_each-snoc : {A : Type 0} (eq : A → A → Bool) (xs : List A) (y : A)
    → first_of_each eq (xs ++ y ∷ []) ≡ cond (list_any (λ x. eq x y) xs) (first_of_each eq xs) (first_of_each eq xs ++ y ∷ [])
first_of_each-snoc eq [] y = refl
first_of_each-snoc {A = A} eq (x ∷ xs) y =
    ap (λ l. x ∷ filter (λ z. not (eq x z)) l) (first_of_each-snoc eq xs y) ∙ by (eq x y) (list_any (λ z. eq z y) xs) refl
  where
    by : (b c : Bool) → eq x y ≡ b → x ∷ filter (λ z. not (eq x z)) (cond c (first_of_each eq xs) (first_of_each eq xs ++ y ∷ []))
        ≡ cond (b || c) (x ∷ filter (λ z. not (eq x z)) (first_of_each eq xs)) (x ∷ (filter (λ z. not (eq x z)) (first_of_each eq xs) ++ y ∷ []))
    by true true e = refl
    by false true e = refl
    by true false e = ap (λ l. x ∷ l) (filter-append (λ z. not (eq x z)) (first_of_each eq xs) (y ∷ [])
        ∙ ap (λ b. filter (λ z. not (eq x z)) (first_of_each eq xs) ++ cond (not b) (y ∷ []) []) e ∙ append-nil (filter (λ z. not (eq x z)) (first_of_each eq xs)))
    by false false e = ap (λ l. x ∷ l) (filter-append (λ z. not (eq x z)) (first_of_each eq xs) (y ∷ [])
        ∙ ap (λ b. filter (λ z. not (eq x z)) (first_of_each eq xs) ++ cond (not b) (y ∷ []) []) e)

-- what is alike to one that fails a test fails it too
others_any : {A : Type 0} (eq : A → A → Bool) (p : A → Bool) → ((x y : A) → eq x y ≡ true → p x ≡ p y) → (x : A) (ys : List A) → p x ≡ false → list_any p (filter (λ y. not (eq x y)) ys) ≡ list_any p ys
others_any eq p alike x [] e = refl
others_any {A = A} eq p alike x (y ∷ ys) e = step (eq x y) refl (others_any eq p alike x ys e)
  where
    step : (c : Bool) → eq x y ≡ c → list_any p (filter (λ z. not (eq x z)) ys) ≡ list_any p ys → list_any p (cond (not c) (y ∷ filter (λ z. not (eq x z)) ys) (filter (λ z. not (eq x z)) ys)) ≡ (p y || list_any p ys)
    step false f ih = ap (λ b. p y || b) ih
    step true f ih = ih ∙ ap (λ b. b || list_any p ys) (sym (sym (alike x y f) ∙ e))

-- a test that what is alike passes alike finds the same among the first of each
pub any_firsts : {A : Type 0} (eq : A → A → Bool) (p : A → Bool) → ((x y : A) → eq x y ≡ true → p x ≡ p y) → (xs : List A) → list_any p (first_of_each eq xs) ≡ list_any p xs
any_firsts eq p alike [] = refl
any_firsts {A = A} eq p alike (x ∷ xs) = by (p x) refl (any_firsts eq p alike xs)
  where
    by : (b : Bool) → p x ≡ b → list_any p (first_of_each eq xs) ≡ list_any p xs → (p x || list_any p (filter (λ y. not (eq x y)) (first_of_each eq xs))) ≡ (p x || list_any p xs)
    by true e ih = rw e refl
    by false e ih = ap (λ b. p x || b) (others_any eq p alike x (first_of_each eq xs) e ∙ ih)

pub first_some-append : {A B : Type 0} (f : A → Option B) (xs ys : List A) → first_some f (xs ++ ys) ≡ option_or (first_some f xs) (first_some f ys)
first_some-append f [] ys = refl
first_some-append {A = A} {B = B} f (x ∷ xs) ys = ap (option_or (f x)) (first_some-append f xs ys) ∙ by (f x)
  where
    by : (o : Option B) → option_or o (option_or (first_some f xs) (first_some f ys)) ≡ option_or (option_or o (first_some f xs)) (first_some f ys)
    by None = refl
    by (Some v) = refl

-- ---- pairs made from names

-- the names with their values
abbrev pub pairs : {V : Type 0} → (List ℕ → V) → List (List ℕ) → List (List ℕ × V)
pairs g names = map (λ name. (name, g name)) names

pub lookup-map : {V : Type 0} (g : List ℕ → V) (q : List ℕ) (names : List (List ℕ))
    → lookup (bytes_eq q) (pairs g names) ≡ cond (list_any (bytes_eq q) names) (Some (g q)) None
lookup-map g q [] = refl
lookup-map g q (name ∷ names) = by (bytes_eq q name) refl (lookup-map g q names)
  where
    by : (b : Bool) → bytes_eq q name ≡ b → lookup (bytes_eq q) (pairs g names) ≡ cond (list_any (bytes_eq q) names) (Some (g q)) None → cond b (Some (g name)) (lookup (bytes_eq q) (pairs g names))
        ≡ cond (b || list_any (bytes_eq q) names) (Some (g q)) None
    by true e rest = ap (λ n. Some (g n)) (sym ((bytes_decides q name).0 e))
    by false e rest = rest

-- functions that agree at each name make the same pairs
pub map-pairs : {V : Type 0} (g h : List ℕ → V) (q : List ℕ) (names : List (List ℕ)) → list_any (bytes_eq q) names ≡ false
    → ((name : List ℕ) → bytes_eq q name ≡ false → g name ≡ h name) → pairs g names ≡ pairs h names
map-pairs g h q [] none same = refl
map-pairs g h q (name ∷ names) none same = by (bytes_eq q name) refl none (λ f. map-pairs g h q names f same)
  where
    by : (b : Bool) → bytes_eq q name ≡ b → (b || list_any (bytes_eq q) names) ≡ false
        → (list_any (bytes_eq q) names ≡ false → pairs g names ≡ pairs h names) → pairs g (name ∷ names) ≡ pairs h (name ∷ names)
    by true e f more = absurd (let t : true ≡ false = f in cc)
    by false e f more = let rest = more f in let first = same name e in λ i. (name, first i) ∷ rest i

-- a pair of a new name goes last
pub insert_entry-last : {V : Type 0} (es : List (List ℕ × V)) (name : List ℕ) (v : V) → lookup (bytes_eq name) es ≡ None → insert_entry bytes_eq es name v ≡ es ++ (name, v) ∷ []
insert_entry-last [] name v none = refl
insert_entry-last {V = V} (e ∷ es) name v none = by (bytes_eq name e.0) none (insert_entry-last es name v)
  where
    by : (b : Bool) → cond b (Some e.1) (lookup (bytes_eq name) es) ≡ None → (lookup (bytes_eq name) es ≡ None → insert_entry bytes_eq es name v ≡ es ++ (name, v) ∷ [])
        → cond b ((e.0, v) ∷ es) (e ∷ insert_entry bytes_eq es name v) ≡ e ∷ (es ++ (name, v) ∷ [])
    by true h more = absurd (let f : Some e.1 ≡ None = h in cc)
    by false h more = ap (λ l. e ∷ l) (more h)
