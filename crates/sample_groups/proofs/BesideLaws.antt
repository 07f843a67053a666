-- Laws on values that stand beside their keys.
use Rattle.std.proofs.Common.{◌≡◌, ℕ, zero, suc, ◌+◌, Bool, true, false, cond, ◌||◌, List, [], ◌∷◌, ◌++◌, length, drop, slice_get, Some, None, refl, sym, ap, subst, ◌∙◌, arith}
use Rattle.std.specs.List.{list_any, zip, IsDistinct, AllByRecursion}
use Rattle.std.specs.Map.{lookup}
use Rattle.sample_groups.specs.Beside.{AreBeside}
use Rattle.sample_groups.proofs.Members.{eq_swap}

pub one_more : {A : Type 0} (xs : List A) (x : A) → length (xs ++ x ∷ []) ≡ suc (length xs)
one_more [] x = refl
one_more (y ∷ ys) x = ap suc (one_more ys x)

pub suc_same : (m n : ℕ) → suc m ≡ suc n → m ≡ n
suc_same m n e = omega arith

module _ {K V : Type 0} where
  -- one pair more
  pub zip-snoc : (ks : List K) (vs : List V) (k : K) (v : V) → length ks ≡ length vs → zip (ks ++ k ∷ []) (vs ++ v ∷ []) ≡ zip ks vs ++ (k, v) ∷ []
  zip-snoc [] [] k v e = refl
  zip-snoc [] (w ∷ vs) k v e = absurd (omega arith)
  zip-snoc (l ∷ ks) [] k v e = absurd (omega arith)
  zip-snoc (l ∷ ks) (w ∷ vs) k v e = ap (λ es. (l, w) ∷ es) (zip-snoc ks vs k v (suc_same (length ks) (length vs) e))

module _ {K : Type 0} (eq : K → K → Bool) (decides : (a b : K) → (eq a b ≡ true → a ≡ b) × (a ≡ b → eq a b ≡ true)) where
  -- a key that is none of these is none of theirs
  none_same : (k : K) (ks : List K) → list_any (eq k) ks ≡ false → AllByRecursion (λ l. eq l k ≡ false) ks
  none_same k [] h = tt
  none_same k (l ∷ ks) h = by (eq k l) refl h (none_same k ks)
    where
      by : (b : Bool) → eq k l ≡ b → (b || list_any (eq k) ks) ≡ false → (list_any (eq k) ks ≡ false → AllByRecursion (λ m. eq m k ≡ false) ks) → (eq l k ≡ false) × AllByRecursion (λ m. eq m k ≡ false) ks
      by true e h more = absurd (let no : true ≡ false = h in cc)
      by false e h more = (eq_swap eq decides l k ∙ e, more h)

  all_false-snoc : (l k : K) (ks : List K) → AllByRecursion (λ m. eq l m ≡ false) ks → eq l k ≡ false → AllByRecursion (λ m. eq l m ≡ false) (ks ++ k ∷ [])
  all_false-snoc l k [] all e = (e, tt)
  all_false-snoc l k (m ∷ ks) all e = (all.0, all_false-snoc l k ks all.1 e)

  distinct-snoc : (ks : List K) (k : K) → IsDistinct eq ks → AllByRecursion (λ l. eq l k ≡ false) ks → IsDistinct eq (ks ++ k ∷ [])
  unfolding IsDistinct
  distinct-snoc [] k d new = (tt, tt)
  distinct-snoc (l ∷ ks) k d new = (all_false-snoc l k ks d.0 new.0, distinct-snoc ks k d.1 new.1)

  -- a key at a place is none of those that differ from all
  apart : (l : K) (ks : List K) (i : ℕ) (k : K) → AllByRecursion (λ m. eq l m ≡ false) ks → slice_get ks i ≡ Some k → eq k l ≡ false
  apart l [] i k all e = absurd (let no : None ≡ Some k = e in cc)
  apart l (m ∷ ks) zero k all e = let one : m ≡ k = cc in eq_swap eq decides k l ∙ subst (λ q. eq l q ≡ false) one all.0
  apart l (m ∷ ks) (suc i) k all e = apart l ks i k all.1 e

  pub first_apart_from : (ks : List K) (i : ℕ) (l k : K) → IsDistinct eq (l ∷ ks) → slice_get ks i ≡ Some k → eq k l ≡ false
  unfolding IsDistinct
  first_apart_from ks i l k d e = apart l ks i k d.0 e

  pub distinct_rest : (l : K) (ks : List K) → IsDistinct eq (l ∷ ks) → IsDistinct eq ks
  unfolding IsDistinct
  distinct_rest l ks d = d.1

  none_distinct : IsDistinct eq []
  unfolding IsDistinct
  none_distinct = tt

  module _ {V : Type 0} where
    pub beside_none : (ks : List K) (vs : List V) → ks ≡ [] → vs ≡ [] → AreBeside eq ks vs
    beside_none ks vs k v = subst (λ l. AreBeside eq l vs) (sym k) (subst (λ l. AreBeside eq [] l) (sym v) (record { many = refl; distinct = none_distinct }))

    -- one value more, beside a new key
    pub beside_more : (ks : List K) (vs : List V) (k : K) (v : V) → AreBeside eq ks vs → list_any (eq k) ks ≡ false → AreBeside eq (ks ++ k ∷ []) (vs ++ v ∷ [])
    beside_more ks vs k v b new = record { many = one_more ks k ∙ ap suc b.many ∙ sym (one_more vs v); distinct = distinct-snoc ks k b.distinct (none_same k ks new) }

    -- the value of a key stands at the key's place
    pub found_beside : (ks : List K) (vs : List V) (i : ℕ) (k : K) → AreBeside eq ks vs → slice_get ks i ≡ Some k → lookup (eq k) (zip ks vs) ≡ slice_get vs i
    found_beside [] vs i k b e = absurd (let no : None ≡ Some k = e in cc)
    found_beside (l ∷ ks) [] i k b e = absurd (let no : suc (length ks) ≡ 0 = b.many in omega arith)
    found_beside (l ∷ ks) (v ∷ vs) zero k b e = let one : l ≡ k = cc in ap (λ c. cond c (Some v) (lookup (eq k) (zip ks vs))) ((decides k l).1 (sym one))
    found_beside (l ∷ ks) (v ∷ vs) (suc i) k b e =
        ap (λ c. cond c (Some v) (lookup (eq k) (zip ks vs))) (first_apart_from ks i l k b.distinct e)
        ∙ found_beside ks vs i k (record { many = suc_same (length ks) (length vs) b.many; distinct = distinct_rest l ks b.distinct }) e

    -- a key that is none of them has no value
    pub missing_beside : (ks : List K) (vs : List V) (k : K) → list_any (eq k) ks ≡ false → lookup (eq k) (zip ks vs) ≡ None
    missing_beside [] vs k h = refl
    missing_beside (l ∷ ks) [] k h = refl
    missing_beside (l ∷ ks) (v ∷ vs) k h = by (eq k l) h (missing_beside ks vs k)
      where
        by : (c : Bool) → (c || list_any (eq k) ks) ≡ false → (list_any (eq k) ks ≡ false → lookup (eq k) (zip ks vs) ≡ None) → cond c (Some v) (lookup (eq k) (zip ks vs)) ≡ None
        by true e more = absurd (let no : true ≡ false = e in cc)
        by false e more = more e

-- ---- a walk over keys and values at once

-- the key at a place, and those behind it
pub taken_off : {A : Type 0} (xs : List A) (i : ℕ) (x : A) → slice_get xs i ≡ Some x → drop i xs ≡ x ∷ drop (i + 1) xs
taken_off [] i x e = absurd (let no : None ≡ Some x = e in cc)
taken_off (y ∷ ys) zero x e = let one : y ≡ x = cc in ap (λ z. z ∷ ys) one
taken_off (y ∷ ys) (suc i) x e = taken_off ys i x e ∙ ap (λ l. x ∷ l) (ap (λ n. drop n (y ∷ ys)) (let next : suc (i + 1) ≡ suc i + 1 = omega arith in next))

-- one value fewer is left
pub fewer_left : {A B : Type 0} (place : ℕ) (left next : List A) (x : A) (sets : List B) → left ≡ x ∷ next → place + length left ≡ length sets → place + 1 + length next ≡ length sets
fewer_left place left next x sets first many = let more : length left ≡ suc (length next) = ap length first in omega arith
