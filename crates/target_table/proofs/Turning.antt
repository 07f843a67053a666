-- The target whose turn it is, found from the last slot to the first.
use Rattle.std.proofs.Common.{◌≡◌, ℕ, ◌+◌, ◌-◌, ◌<◌, zero, suc, Bool, true, false, ◌&&◌, ◌==◌, List, [], ◌∷◌, length, drop, get_or, Option, Some, None, option_map, option_and_then, refl, sym, ap, subst, ◌∙◌, arith, drop-cons}
use Rattle.std.specs.Prelude.{nat_lt, nat_le}
use Rattle.std.proofs.lemmas.Bool.Decides.{nat_tests}
use Rattle.std.proofs.lemmas.Option.{none-some}
use Rattle.series_table.specs.Records.{Kept}
use Rattle.target_table.specs.declared.turn.Next.{Next}
use Rattle.target_table.specs.Machine.{turn_of, fewest, place_where}
use Rattle.target_table.specs.Tables.{may_leave, visits_in, next_place}
use Rattle.target_table.specs.Search.{visits_due, nearer, IsNextDue}
use Rattle.target_table.proofs.Places.{same_number}

-- ---- one more in front

-- behind one that does not pass
pub turn_skips : {A : Type 0} (visits : A → ℕ) (test : A → Bool) (x : A) (xs : List A) → test x ≡ false → turn_of visits test (x ∷ xs) ≡ option_and_then (λ n. Some (n + 1)) (turn_of visits test xs)
unfolding turn_of
turn_skips visits test x xs fails = go (fewest visits test xs) refl
  where
    go : (o : Option ℕ) → fewest visits test xs ≡ o → turn_of visits test (x ∷ xs) ≡ option_and_then (λ n. Some (n + 1)) (turn_of visits test xs)
    go None p = rw (fails, p) refl
    go (Some m) p = rw (fails, p) refl

pub fewest_skips : {A : Type 0} (visits : A → ℕ) (test : A → Bool) (x : A) (xs : List A) → test x ≡ false → fewest visits test (x ∷ xs) ≡ fewest visits test xs
fewest_skips visits test x xs fails = rw fails refl

-- no other passes
pub turn_of_one : {A : Type 0} (visits : A → ℕ) (test : A → Bool) (x : A) (xs : List A) → test x ≡ true → fewest visits test xs ≡ None → turn_of visits test (x ∷ xs) ≡ Some 0
unfolding turn_of
turn_of_one visits test x xs passes none = rw (passes, none, same_number (visits x)) refl

pub fewest_of_one : {A : Type 0} (visits : A → ℕ) (test : A → Bool) (x : A) (xs : List A) → test x ≡ true → fewest visits test xs ≡ None → fewest visits test (x ∷ xs) ≡ Some (visits x)
fewest_of_one visits test x xs passes none = rw (passes, none) refl

at_most : (n m : ℕ) → nat_lt m n ≡ false → nat_le n m ≡ true
at_most n m e = grind (arith, nat_tests)

above : (n m : ℕ) → nat_lt m n ≡ true → nat_le n m ≡ false
above n m e = grind (arith, nat_tests)

other_number : (n m : ℕ) → nat_lt m n ≡ true → (n == m) ≡ false
other_number n m e = grind (arith, nat_tests)

-- none behind has fewer
pub turn_first : {A : Type 0} (visits : A → ℕ) (test : A → Bool) (x : A) (xs : List A) (m : ℕ) → test x ≡ true → fewest visits test xs ≡ Some m → nat_lt m (visits x) ≡ false → turn_of visits test (x ∷ xs) ≡ Some 0
unfolding turn_of
turn_first visits test x xs m passes some fails = rw (passes, some, at_most (visits x) m fails, same_number (visits x)) refl

pub fewest_first : {A : Type 0} (visits : A → ℕ) (test : A → Bool) (x : A) (xs : List A) (m : ℕ) → test x ≡ true → fewest visits test xs ≡ Some m → nat_lt m (visits x) ≡ false → fewest visits test (x ∷ xs) ≡ Some (visits x)
fewest_first visits test x xs m passes some fails = rw (passes, some, at_most (visits x) m fails) refl

pub fewest_behind : {A : Type 0} (visits : A → ℕ) (test : A → Bool) (x : A) (xs : List A) (m : ℕ) → test x ≡ true → fewest visits test xs ≡ Some m → nat_lt m (visits x) ≡ true → fewest visits test (x ∷ xs) ≡ Some m
fewest_behind visits test x xs m passes some less = rw (passes, some, above (visits x) m less) refl

turn_at : {A : Type 0} (visits : A → ℕ) (test : A → Bool) (ys : List A) (m : ℕ) → fewest visits test ys ≡ Some m → turn_of visits test ys ≡ place_where (λ z. test z && visits z == m) ys
unfolding turn_of
turn_at visits test ys m e = ap (option_and_then (λ n. place_where (λ z. test z && visits z == n) ys)) e

place_behind : {A : Type 0} (test : A → Bool) (x : A) (xs : List A) → test x ≡ false → place_where test (x ∷ xs) ≡ option_and_then (λ n. Some (n + 1)) (place_where test xs)
place_behind test x xs fails = rw fails refl

has_more : {A : Type 0} (visits : A → ℕ) (test : A → Bool) (x : A) (m : ℕ) → nat_lt m (visits x) ≡ true → (test x && visits x == m) ≡ false
has_more visits test x m less = go (test x)
  where
    go : (b : Bool) → (b && visits x == m) ≡ false
    go true = other_number (visits x) m less
    go false = refl

-- one behind has fewer
pub turn_behind : {A : Type 0} (visits : A → ℕ) (test : A → Bool) (x : A) (xs : List A) (m : ℕ) → test x ≡ true → fewest visits test xs ≡ Some m → nat_lt m (visits x) ≡ true → turn_of visits test (x ∷ xs) ≡ option_and_then (λ n. Some (n + 1)) (turn_of visits test xs)
turn_behind visits test x xs m passes some less =
    turn_at visits test (x ∷ xs) m (fewest_behind visits test x xs m passes some less) ∙ place_behind (λ z. test z && visits z == m) x xs (has_more visits test x m less)
    ∙ ap (option_and_then (λ n. Some (n + 1))) (sym (turn_at visits test xs m some))

-- ---- the search

pub next_of_none : (rounds place : ℕ) → IsNextDue rounds [] place None
unfolding turn_of
next_of_none rounds place = record { place_is = refl; visits_are = refl }

one_further : (place : ℕ) (o : Option ℕ) → option_map (λ i. i + (place + 1)) o ≡ option_map (λ i. i + place) (option_and_then (λ n. Some (n + 1)) o)
one_further place None = refl
one_further place (Some i) = let e : i + (place + 1) ≡ i + 1 + place = omega arith in ap Some e

next_more : (rounds : ℕ) (slot : Option Kept) (slots : List (Option Kept)) (place : ℕ) (next : Option Next) → IsNextDue rounds slots (place + 1) next → IsNextDue rounds (slot ∷ slots) place (nearer (visits_due rounds slot) place next)
next_more rounds slot slots place next h = go (may_leave rounds slot) refl
  where
    here : Some place ≡ option_map (λ i. i + place) (Some 0)
    here = let e : place ≡ 0 + place = omega arith in ap Some e

    go : (b : Bool) → may_leave rounds slot ≡ b → IsNextDue rounds (slot ∷ slots) place (nearer (visits_due rounds slot) place next)
    go false fails = subst (λ due. IsNextDue rounds (slot ∷ slots) place (nearer due place next)) (sym due_is) (record {
      place_is = h.place_is ∙ one_further place (next_place rounds slots) ∙ ap (option_map (λ i. i + place)) (sym (turn_skips visits_in (may_leave rounds) slot slots fails));
      visits_are = h.visits_are ∙ sym (fewest_skips visits_in (may_leave rounds) slot slots fails);
    })
      where
        due_is : visits_due rounds slot ≡ None
        due_is = rw fails refl
    go true passes = subst (λ due. IsNextDue rounds (slot ∷ slots) place (nearer due place next)) (sym due_is) (beside next refl)
      where
        due_is : visits_due rounds slot ≡ Some (visits_in slot)
        due_is = rw passes refl

        beside : (o : Option Next) → next ≡ o → IsNextDue rounds (slot ∷ slots) place (nearer (Some (visits_in slot)) place next)
        beside None e =
            let none : fewest visits_in (may_leave rounds) slots ≡ None = sym h.visits_are ∙ ap (option_map (λ (n : Next). n.visits)) e in
            subst (λ o. IsNextDue rounds (slot ∷ slots) place (nearer (Some (visits_in slot)) place o)) (sym e) (record {
              place_is = here ∙ ap (option_map (λ i. i + place)) (sym (turn_of_one visits_in (may_leave rounds) slot slots passes none));
              visits_are = sym (fewest_of_one visits_in (may_leave rounds) slot slots passes none);
            })
        beside (Some n) e = fewer (nat_lt n.visits (visits_in slot)) refl
          where
            some : fewest visits_in (may_leave rounds) slots ≡ Some n.visits
            some = sym h.visits_are ∙ ap (option_map (λ (n : Next). n.visits)) e

            there : Some n.place ≡ option_map (λ i. i + (place + 1)) (next_place rounds slots)
            there = ap (option_map (λ (n : Next). n.place)) (sym e) ∙ h.place_is

            fewer : (b : Bool) → nat_lt n.visits (visits_in slot) ≡ b → IsNextDue rounds (slot ∷ slots) place (nearer (Some (visits_in slot)) place next)
            fewer true less = subst (IsNextDue rounds (slot ∷ slots) place) (sym stays) (record {
              place_is = there ∙ one_further place (next_place rounds slots) ∙ ap (option_map (λ i. i + place)) (sym (turn_behind visits_in (may_leave rounds) slot slots n.visits passes some less));
              visits_are = sym (fewest_behind visits_in (may_leave rounds) slot slots n.visits passes some less);
            })
              where
                stays : nearer (Some (visits_in slot)) place next ≡ Some n
                stays = rw (e, less) refl
            fewer false not_less = subst (IsNextDue rounds (slot ∷ slots) place) (sym goes) (record {
              place_is = here ∙ ap (option_map (λ i. i + place)) (sym (turn_first visits_in (may_leave rounds) slot slots n.visits passes some not_less));
              visits_are = sym (fewest_first visits_in (may_leave rounds) slot slots n.visits passes some not_less);
            })
              where
                goes : nearer (Some (visits_in slot)) place next ≡ Some (record { place = place; visits = visits_in slot })
                goes = rw (e, not_less) refl

-- one slot more from the end
pub next_step : (rounds : ℕ) (slots : List (Option Kept)) (behind : ℕ) (next : Option Next) (d : Option Kept) → behind < length slots → IsNextDue rounds (drop (length slots - behind) slots) (length slots - behind) next
    → IsNextDue rounds (drop (length slots - (behind + 1)) slots) (length slots - (behind + 1)) (nearer (visits_due rounds (get_or slots (length slots - 1 - behind) d)) (length slots - 1 - behind) next)
next_step rounds slots behind next d within h =
    let place_is : length slots - (behind + 1) ≡ length slots - 1 - behind = omega arith in
    let after : length slots - behind ≡ length slots - 1 - behind + 1 = omega arith in
    let after_suc : length slots - behind ≡ suc (length slots - 1 - behind) = omega arith in
    let inside : length slots - 1 - behind < length slots = omega arith in
    let old : IsNextDue rounds (drop (suc (length slots - 1 - behind)) slots) (length slots - 1 - behind + 1) next =
    subst (λ n. IsNextDue rounds (drop n slots) (length slots - 1 - behind + 1) next) after_suc (subst (λ n. IsNextDue rounds (drop (length slots - behind) slots) n next) after h) in
    let new = next_more rounds (get_or slots (length slots - 1 - behind) d) (drop (suc (length slots - 1 - behind)) slots) (length slots - 1 - behind) next old in
    subst (λ n. IsNextDue rounds (drop n slots) n (nearer (visits_due rounds (get_or slots (length slots - 1 - behind) d)) (length slots - 1 - behind) next)) (sym place_is)
    (subst (λ xs. IsNextDue rounds xs (length slots - 1 - behind) (nearer (visits_due rounds (get_or slots (length slots - 1 - behind) d)) (length slots - 1 - behind) next)) (sym (drop-cons slots (length slots - 1 - behind) d inside)) new)

-- ---- nothing to take

-- where there are fewest visits, it is somebody's turn
IsSomebodys : {A : Type 0} → (A → ℕ) → (A → Bool) → List A → Type 0
IsSomebodys visits test xs = (m : ℕ) → fewest visits test xs ≡ Some m → (i : ℕ) × (turn_of visits test xs ≡ Some i)

somebodys_more : {A : Type 0} (visits : A → ℕ) (test : A → Bool) (x : A) (xs : List A) (m : ℕ) → IsSomebodys visits test xs → fewest visits test (x ∷ xs) ≡ Some m → (i : ℕ) × (turn_of visits test (x ∷ xs) ≡ Some i)
unfolding IsSomebodys
somebodys_more visits test x xs m later e = go (test x) refl
  where
    go : (b : Bool) → test x ≡ b → (i : ℕ) × (turn_of visits test (x ∷ xs) ≡ Some i)
    go false fails =
        let r = later m (sym (fewest_skips visits test x xs fails) ∙ e) in
        (r.0 + 1, turn_skips visits test x xs fails ∙ ap (option_and_then (λ n. Some (n + 1))) r.1)
    go true passes = behind (fewest visits test xs) refl
      where
        behind : (o : Option ℕ) → fewest visits test xs ≡ o → (i : ℕ) × (turn_of visits test (x ∷ xs) ≡ Some i)
        behind None p = (0, turn_of_one visits test x xs passes p)
        behind (Some n) p = fewer (nat_lt n (visits x)) refl
          where
            fewer : (b : Bool) → nat_lt n (visits x) ≡ b → (i : ℕ) × (turn_of visits test (x ∷ xs) ≡ Some i)
            fewer true less =
                let r = later n p in
                (r.0 + 1, turn_behind visits test x xs n passes p less ∙ ap (option_and_then (λ n. Some (n + 1))) r.1)
            fewer false not_less = (0, turn_first visits test x xs n passes p not_less)

turn_is_some : {A : Type 0} (visits : A → ℕ) (test : A → Bool) (xs : List A) → IsSomebodys visits test xs
unfolding IsSomebodys
turn_is_some visits test [] m e = absurd (none-some m e)
turn_is_some visits test (x ∷ xs) m e = somebodys_more visits test x xs m (turn_is_some visits test xs) e

-- where it is nobody's turn, none has fewest visits
no_fewest : {A : Type 0} (visits : A → ℕ) (test : A → Bool) (xs : List A) → turn_of visits test xs ≡ None → fewest visits test xs ≡ None
unfolding IsSomebodys
no_fewest visits test xs e = go (fewest visits test xs) refl
  where
    go : (o : Option ℕ) → fewest visits test xs ≡ o → fewest visits test xs ≡ None
    go None p = p
    go (Some m) p = let r = turn_is_some visits test xs m p in absurd (none-some r.0 (sym e ∙ r.1))

fewest_is_some : {A : Type 0} (visits : A → ℕ) (test : A → Bool) (y : A) (ys : List A) → test y ≡ true → (m : ℕ) × (fewest visits test (y ∷ ys) ≡ Some m)
fewest_is_some visits test y ys passes = behind (fewest visits test ys) refl
  where
    behind : (o : Option ℕ) → fewest visits test ys ≡ o → (m : ℕ) × (fewest visits test (y ∷ ys) ≡ Some m)
    behind None p = (visits y, fewest_of_one visits test y ys passes p)
    behind (Some n) p = fewer (nat_lt n (visits y)) refl
      where
        fewer : (b : Bool) → nat_lt n (visits y) ≡ b → (m : ℕ) × (fewest visits test (y ∷ ys) ≡ Some m)
        fewer true less = (n, fewest_behind visits test y ys n passes p less)
        fewer false not_less = (visits y, fewest_first visits test y ys n passes p not_less)

first_fails : {A : Type 0} (visits : A → ℕ) (test : A → Bool) (y : A) (ys : List A) → fewest visits test (y ∷ ys) ≡ None → test y ≡ false
first_fails visits test y ys e = go (test y) refl
  where
    go : (b : Bool) → test y ≡ b → test y ≡ false
    go true passes = let r = fewest_is_some visits test y ys passes in absurd (none-some r.0 (sym e ∙ r.1))
    go false fails = fails

none_has_fewest : {A : Type 0} (visits : A → ℕ) (test : A → Bool) (xs : List A) (i : ℕ) (x : A) → fewest visits test xs ≡ None → i < length xs → get_or xs i x ≡ x → test x ≡ false
none_has_fewest visits test [] i x e within at = absurd (omega arith)
none_has_fewest visits test (y ∷ ys) zero x e within at = subst (λ z. test z ≡ false) at (first_fails visits test y ys e)
none_has_fewest visits test (y ∷ ys) (suc j) x e within at = none_has_fewest visits test ys j x (sym (fewest_skips visits test y ys (first_fails visits test y ys e)) ∙ e) (omega arith) at

-- where it is nobody's turn, none passes
pub none_passes : {A : Type 0} (visits : A → ℕ) (test : A → Bool) (xs : List A) (i : ℕ) (x : A) → turn_of visits test xs ≡ None → i < length xs → get_or xs i x ≡ x → test x ≡ false
none_passes visits test xs i x e within at = none_has_fewest visits test xs i x (no_fewest visits test xs e) within at

drop_all : {A : Type 0} (xs : List A) → drop (length xs) xs ≡ []
drop_all [] = refl
drop_all (x ∷ xs) = drop_all xs

-- no slot was looked at yet
pub next_init : (rounds : ℕ) (slots : List (Option Kept)) → IsNextDue rounds (drop (length slots - 0) slots) (length slots - 0) None
next_init rounds slots =
    let all : length slots ≡ length slots - 0 = omega arith in
    subst (λ n. IsNextDue rounds (drop n slots) n None) all (subst (λ xs. IsNextDue rounds xs (length slots) None) (sym (drop_all slots)) (next_of_none rounds (length slots)))
