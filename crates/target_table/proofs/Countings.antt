-- As many targets are out as slots are empty.
use Rattle.std.proofs.Common.{◌≡◌, ℕ, zero, suc, ◌+◌, ◌≤◌, ◌<◌, Bool, true, false, cond, ◌==◌, List, [], ◌∷◌, length, filter, is_none, count_by, Option, Some, None, refl, sym, ap, subst, ◌∙◌, arith}
use Rattle.std.proofs.lemmas.Bool.Decides.{nat_tests}
use Rattle.std.proofs.lemmas.List.Sums.{length-filter}
use Rattle.page_model.specs.declared.event.Shown.{Shown}
use Rattle.series_table.specs.Talking.{Talking, Followed}
use Rattle.series_table.specs.Records.{Kept}
use Rattle.target_table.specs.Runs.{Run}
use Rattle.target_table.specs.Tables.{Held, holders, targets_out, AreSlots, AreNumbers, IsTable}
use Rattle.target_table.proofs.Tabled.{hit, hit-same, hit-other, holders-step}
use Rattle.target_table.proofs.Places.{equal_numbers, unequal_numbers}

-- how many lanes are out with the numbers of so many targets from a place on
held_from : ℕ → ℕ → List ℕ → ℕ
held_from zero from books = 0
held_from (suc n) from books = holders (from + 1) books + held_from n (from + 1) books

empty_slots : (w : Talking) (rounds : ℕ) (books : List ℕ) (from : ℕ) (fs : List Followed) (slots : List (Option Kept)) (seen : List Shown) → AreSlots w rounds books from fs slots seen → length (filter is_none slots) ≡ held_from (length slots) from books
unfolding held_from
empty_slots w rounds books from [] [] [] h = refl
empty_slots w rounds books from (f ∷ fs) (None ∷ slots) (s ∷ seen) h =
    let one = h.0.1 in
    let rest = empty_slots w rounds books (from + 1) fs slots seen h.1 in
    omega (arith, one, rest)
empty_slots w rounds books from (f ∷ fs) (Some k ∷ slots) (s ∷ seen) h =
    let none = h.0.1 in
    let rest = empty_slots w rounds books (from + 1) fs slots seen h.1 in
    omega (arith, none, rest)
empty_slots w rounds books from [] (slot ∷ slots) seen h = absurd h
empty_slots w rounds books from [] [] (s ∷ seen) h = absurd h
empty_slots w rounds books from (f ∷ fs) [] seen h = absurd h
empty_slots w rounds books from (f ∷ fs) (slot ∷ slots) [] h = absurd h

-- how often a number is that of one of so many targets from a place on
hits_from : ℕ → ℕ → ℕ → ℕ
hits_from zero from m = 0
hits_from (suc n) from m = hit m (from + 1) + hits_from n (from + 1) m

below_all : (n from m : ℕ) → m ≤ from → hits_from n from m ≡ 0
unfolding hits_from
below_all zero from m low = refl
below_all (suc n) from m low =
    let a = hit-other m (from + 1) (λ e. omega arith) in
    let b = below_all n (from + 1) m (omega arith) in
    omega arith

one_of : (n from m : ℕ) → from < m → (from + 1 < m → hits_from n (from + 1) m ≡ 1) → hit m (from + 1) + hits_from n (from + 1) m ≡ 1
one_of n from m low later = go (m == from + 1) refl
  where
    go : (b : Bool) → (m == from + 1) ≡ b → hit m (from + 1) + hits_from n (from + 1) m ≡ 1
    go true e =
        let same : m ≡ from + 1 = equal_numbers m (from + 1) e in
        let a : hit m (from + 1) ≡ 1 = subst (λ k. hit k (from + 1) ≡ 1) (sym same) (hit-same (from + 1)) in
        let b = below_all n (from + 1) m (omega arith) in
        omega arith
    go false e =
        let a = hit-other m (from + 1) (unequal_numbers m (from + 1) e) in
        let b = later (strictly m from (unequal_numbers m (from + 1) e) low) in
        omega arith
      where
        strictly : (m from : ℕ) → (m ≡ from + 1 → ⊥) → from < m → from + 1 < m
        strictly m from apart low = omega arith

among : (n from m : ℕ) → from < m → m ≤ from + n → hits_from n from m ≡ 1
unfolding hits_from
among zero from m low high = absurd (omega arith)
among (suc n) from m low high = one_of n from m low (λ above. among n (from + 1) m above (omega arith))

held_more : (n from m : ℕ) (ms : List ℕ) → held_from n from (m ∷ ms) ≡ hits_from n from m + held_from n from ms
unfolding held_from hits_from
held_more zero from m ms = refl
held_more (suc n) from m ms =
    let a = holders-step (from + 1) m ms in
    let b = held_more n (from + 1) m ms in
    omega arith

held_by_none : (n from : ℕ) → held_from n from [] ≡ 0
unfolding held_from
held_by_none zero from = refl
held_by_none (suc n) from = let rest = held_by_none n (from + 1) in omega (arith, rest)

out_more : (m : ℕ) (ms : List ℕ) → targets_out (m ∷ ms) ≡ cond (m == 0) 0 1 + targets_out ms
out_more m ms = go (m == 0) refl
  where
    go : (b : Bool) → (m == 0) ≡ b → targets_out (m ∷ ms) ≡ cond (m == 0) 0 1 + targets_out ms
    go true e = rw e (omega arith)
    go false e = rw e (omega arith)

held_first : (n m : ℕ) (ms : List ℕ) → m ≤ n → held_from n 0 ms ≡ targets_out ms → hits_from n 0 m + held_from n 0 ms ≡ targets_out (m ∷ ms)
held_first n m ms few rest = go (m == 0) refl
  where
    go : (b : Bool) → (m == 0) ≡ b → hits_from n 0 m + held_from n 0 ms ≡ targets_out (m ∷ ms)
    go true e =
        let zero_is : m ≡ 0 = equal_numbers m 0 e in
        let a = below_all n 0 m (omega arith) in
        let b : targets_out (m ∷ ms) ≡ 0 + targets_out ms = out_more m ms ∙ ap (λ c. cond c 0 1 + targets_out ms) e in
        omega arith
    go false e =
        let some : 0 < m = above m e in
        let a = among n 0 m some (omega arith) in
        let b : targets_out (m ∷ ms) ≡ 1 + targets_out ms = out_more m ms ∙ ap (λ c. cond c 0 1 + targets_out ms) e in
        omega arith
      where
        above : (m : ℕ) → (m == 0) ≡ false → 0 < m
        above m e = grind (arith, nat_tests)

all_held : (n : ℕ) (books : List ℕ) → AreNumbers n books → held_from n 0 books ≡ targets_out books
all_held n [] h = held_by_none n 0
all_held n (m ∷ ms) h = held_more n 0 m ms ∙ held_first n m ms h.0 (all_held n ms h.1)

pub out_is_counted : (w : Talking) (run : Run) (h : Held) → IsTable w run h → count_by is_none h.slots ≡ targets_out h.books
out_is_counted w run h table = sym (length-filter is_none h.slots) ∙ empty_slots w run.rounds h.books 0 run.targets h.slots h.seen table.targets ∙ all_held (length h.slots) h.books table.numbers
