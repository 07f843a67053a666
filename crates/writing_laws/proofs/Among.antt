-- Things that a key tells apart: each of them among the others.
use Rattle.std.proofs.Common.{◌≡◌, Bool, false, not, List, [], ◌∷◌, ◌++◌, map, filter, refl, sym, ap, ◌∙◌}
use Rattle.std.specs.Prelude.{⊤}
use Rattle.std.specs.List.{AllByRecursion}
use Rattle.std.specs.Bool.{Decides}
use Rattle.std.proofs.lemmas.Bool.{false_from_ne_true, true≢false}

-- a test of two keys that says whether they are one
module _ {K : Type 0} (eq : K → K → Bool) (decides : (a b : K) → Decides (eq a b) (a ≡ b)) where
  pub turned : (a b : K) → eq a b ≡ false → eq b a ≡ false
  turned a b e = false_from_ne_true (eq b a) (λ h. true≢false (sym ((decides a b).1 (sym ((decides b a).0 h))) ∙ e))

  module _ {A : Type 0} (key : A → K) where
    -- none of them has this key
    abbrev pub Apart : K → List A → Type 0
    Apart k xs = AllByRecursion (λ x. eq k (key x) ≡ false) xs

    -- no two have one key
    abbrev pub Distinct : List A → Type 0
    Distinct [] = ⊤
    Distinct (x ∷ xs) = Apart (key x) xs × Distinct xs

    -- one that stands among others
    pub record IsAmong (x : A) (xs : List A) : Type 0 where
      pub before : List A
      pub behind : List A
      pub is : xs ≡ before ++ x ∷ behind
      pub first : Apart (key x) before
      pub last : Apart (key x) behind

    -- a key that none of them has is no key to leave out
    pub apart_kept : (k : K) (xs : List A) → Apart k xs → filter (λ n. not (eq k n)) (map key xs) ≡ map key xs
    apart_kept k [] a = refl
    apart_kept k (x ∷ xs) a = rw a.0 (ap (λ ns. key x ∷ ns) (apart_kept k xs a.1))

    pub all_among : (xs : List A) → Distinct xs → AllByRecursion (λ x. IsAmong x xs) xs
    all_among [] d = tt
    all_among (x ∷ xs) d = (record { before = []; behind = xs; is = refl; first = tt; last = d.0 }, later xs d.0 (all_among xs d.1))
      where
        later : (ys : List A) → Apart (key x) ys → AllByRecursion (λ y. IsAmong y xs) ys → AllByRecursion (λ y. IsAmong y (x ∷ xs)) ys
        later [] a h = tt
        later (y ∷ ys) a h = (record { before = x ∷ h.0.before; behind = h.0.behind; is = ap (λ t. x ∷ t) h.0.is; first = (turned (key x) (key y) a.0, h.0.first); last = h.0.last }, later ys a.1 h.1)
