-- A test over the front of a list and over its end, which overlap.
use Rattle.std.proofs.Common.{◌≡◌, ℕ, zero, suc, ◌≤◌, Bool, true, false, ◌||◌, List, [], ◌∷◌, take, drop, refl, arith}
use Rattle.std.proofs.lemmas.Grind.{common_steps}
use Rattle.std.specs.List.{list_any}

or_next : (a b c d : Bool) → (b || c) ≡ d → ((a || b) || c) ≡ (a || d)
or_next true b c d e = refl
or_next false b c d e = e

or_twice : (a b c : Bool) → (b || c) ≡ c → ((a || b) || (a || c)) ≡ (a || c)
or_twice true b c e = refl
or_twice false b c e = e

-- both tests together are the test of the list
pub any_ends : {A : Type 0} (xs : List A) (p : A → Bool) (front behind : ℕ) → behind ≤ front → (list_any p (take front xs) || list_any p (drop behind xs)) ≡ list_any p xs
any_ends [] p front behind h = grind (arith, common_steps)
any_ends (x ∷ xs) p zero zero h = refl
any_ends (x ∷ xs) p zero (suc b) h = absurd (omega arith)
any_ends (x ∷ xs) p (suc f) zero h = or_twice (p x) (list_any p (take f xs)) (list_any p xs) (any_ends xs p f 0 (omega arith))
any_ends (x ∷ xs) p (suc f) (suc b) h = or_next (p x) (list_any p (take f xs)) (list_any p (drop b xs)) (list_any p xs) (any_ends xs p f b (omega arith))
