-- A list of which the element at one place is another, and whose turn it is.
use Rattle.std.proofs.Common.{◌≡◌, ℕ, zero, suc, Bool, true, false, ◌==◌, List, [], ◌∷◌, Some, refl, sym, ap, ◌∙◌, nat_lt, ◌<◌, arith}
use Rattle.std.specs.List.{slice_get}
use Rattle.std.proofs.lemmas.Option.{none-some, same_Some}
use Rattle.std.proofs.lemmas.Bool.Decides.{Decides-eqb, nat_tests}
use Rattle.target_table.specs.Machine.{turn_of, changed_at}

pub get_same : {A : Type 0} (f : A → A) (xs : List A) (i : ℕ) (x : A) → slice_get xs i ≡ Some x → slice_get (changed_at f xs i) i ≡ Some (f x)
get_same f [] i x e = absurd (none-some x e)
get_same f (y ∷ ys) zero x e = ap (λ z. Some (f z)) (same_Some y x e)
get_same f (y ∷ ys) (suc i) x e = get_same f ys i x e

pub get_other : {A : Type 0} (f : A → A) (xs : List A) (i j : ℕ) → (j ≡ i → ⊥) → slice_get (changed_at f xs j) i ≡ slice_get xs i
get_other f [] i j apart = refl
get_other f (y ∷ ys) zero zero apart = absurd (apart refl)
get_other f (y ∷ ys) (suc i) zero apart = refl
get_other f (y ∷ ys) zero (suc j) apart = refl
get_other f (y ∷ ys) (suc i) (suc j) apart = get_other f ys i j (λ e. apart (ap suc e))

pub below : (a b : ℕ) → nat_lt a b ≡ true → a < b
below a b e = grind (arith, nat_tests)

pub equal_numbers : (i j : ℕ) → (i == j) ≡ true → i ≡ j
equal_numbers i j e = (Decides-eqb i j).0 e

pub unequal_numbers : (i j : ℕ) → (i == j) ≡ false → i ≡ j → ⊥
unequal_numbers i j e same = let t : (i == j) ≡ true = (Decides-eqb i j).1 same in let f : true ≡ false = sym t ∙ e in cc

pub same_number : (i : ℕ) → (i == i) ≡ true
same_number i = (Decides-eqb i i).1 refl

-- of one alone it is the turn, where it passes
pub turn_alone : {A : Type 0} (visits : A → ℕ) (test : A → Bool) (x : A) → test x ≡ true → turn_of visits test (x ∷ []) ≡ Some 0
unfolding turn_of
turn_alone visits test x passes = rw (passes, same_number (visits x)) refl
