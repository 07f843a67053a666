-- A table of which nothing is out gives back the track of each target.
use Rattle.std.proofs.Common.{◌≡◌, ℕ, zero, suc, ◌+◌, ◌≤◌, ◌<◌, Bool, true, false, not, ◌&&◌, List, [], ◌∷◌, length, get_or, map, Option, Some, None, IsSome, All, refl, sym, ap, subst, ◌∙◌, arith}
use Rattle.std.specs.Prelude.{nat_lt}
use Rattle.std.proofs.lemmas.Bool.Decides.{nat_tests}
use Rattle.page_model.specs.declared.event.Shown.{Shown}
use Rattle.series_table.specs.Talking.{Talking, Followed}
use Rattle.series_table.specs.Records.{Kept}
use Rattle.target_table.specs.Runs.{Run}
use Rattle.series_table.specs.Tracks.{AreTracks}
use Rattle.target_table.specs.Tables.{Held, may_leave, visits_in, next_place, AreSlots, IsTable, IsRunOver}
use Rattle.target_table.proofs.Beginning.{no_books, none_holds, length-slots}
use Rattle.target_table.proofs.Turning.{none_passes}

full_slots : (w : Talking) (rounds from : ℕ) (fs : List Followed) (slots : List (Option Kept)) (seen : List Shown) → AreSlots w rounds no_books from fs slots seen → All (IsSome {T = Kept}) slots
full_slots w rounds from [] [] [] h k d within = absurd (omega arith)
full_slots w rounds from (f ∷ fs) (None ∷ slots) (s ∷ seen) h k d within = absurd (let one = h.0.1 in let none = none_holds from in omega arith)
full_slots w rounds from (f ∷ fs) (Some t ∷ slots) (s ∷ seen) h zero d within = refl
full_slots w rounds from (f ∷ fs) (Some t ∷ slots) (s ∷ seen) h (suc k) d within = full_slots w rounds (from + 1) fs slots seen h.1 k d (omega arith)
full_slots w rounds from [] (slot ∷ slots) seen h k d within = absurd h
full_slots w rounds from [] [] (s ∷ seen) h k d within = absurd h
full_slots w rounds from (f ∷ fs) [] seen h k d within = absurd h
full_slots w rounds from (f ∷ fs) (slot ∷ slots) [] h k d within = absurd h

-- where no lane is out, no slot is empty
pub none_is_out : (w : Talking) (run : Run) (h : Held) → IsTable w run h → h.books ≡ no_books → All (IsSome {T = Kept}) h.slots
none_is_out w run h table none = full_slots w run.rounds 0 run.targets h.slots h.seen (subst (λ b. AreSlots w run.rounds b 0 run.targets h.slots h.seen) none table.targets)

slots_of_tracks : (w : Talking) (rounds : ℕ) (books : List ℕ) (from : ℕ) (fs : List Followed) (ks : List Kept) (seen : List Shown) → AreSlots w rounds books from fs (map Some ks) seen → AreTracks w from fs ks
slots_of_tracks w rounds books from [] [] [] h = tt
slots_of_tracks w rounds books from (f ∷ fs) (k ∷ ks) (s ∷ seen) h = (h.0.2.at, slots_of_tracks w rounds books (from + 1) fs ks seen h.1)
slots_of_tracks w rounds books from [] (k ∷ ks) seen h = absurd h
slots_of_tracks w rounds books from [] [] (s ∷ seen) h = absurd h
slots_of_tracks w rounds books from (f ∷ fs) [] seen h = absurd h
slots_of_tracks w rounds books from (f ∷ fs) (k ∷ ks) [] h = absurd h

-- the tracks in the slots are those of the run's targets
pub are_tracks : (w : Talking) (run : Run) (h : Held) (ks : List Kept) → IsTable w run h → map Some ks ≡ h.slots → AreTracks w 0 run.targets ks
are_tracks w run h ks table is = slots_of_tracks w run.rounds h.books 0 run.targets ks h.seen (subst (λ s. AreSlots w run.rounds h.books 0 run.targets s h.seen) (sym is) table.targets)

within_rounds : (w : Talking) (rounds : ℕ) (books : List ℕ) (from : ℕ) (fs : List Followed) (ks : List Kept) (seen : List Shown) (i : ℕ) (d : Kept) → AreSlots w rounds books from fs (map Some ks) seen → i < length ks
    → ((get_or ks i d).counts.visits ≤ rounds) × ((get_or ks i d).halted ≡ true → (get_or ks i d).counts.visits < rounds)
within_rounds w rounds books from [] [] [] i d h within = absurd (omega arith)
within_rounds w rounds books from (f ∷ fs) (k ∷ ks) (s ∷ seen) zero d h within = (h.0.2.visits, h.0.2.left)
within_rounds w rounds books from (f ∷ fs) (k ∷ ks) (s ∷ seen) (suc i) d h within = within_rounds w rounds books (from + 1) fs ks seen i d h.1 (omega arith)
within_rounds w rounds books from [] (k ∷ ks) seen i d h within = absurd h
within_rounds w rounds books from [] [] (s ∷ seen) i d h within = absurd h
within_rounds w rounds books from (f ∷ fs) [] seen i d h within = absurd h
within_rounds w rounds books from (f ∷ fs) (k ∷ ks) [] i d h within = absurd h

get_or-map : (ks : List Kept) (i : ℕ) (d : Kept) (x : Option Kept) → i < length ks → get_or (map Some ks) i x ≡ Some (get_or ks i d)
get_or-map [] i d x within = absurd (omega arith)
get_or-map (k ∷ ks) zero d x within = refl
get_or-map (k ∷ ks) (suc i) d x within = get_or-map ks i d x (omega arith)

all_made : (rounds : ℕ) (halted : Bool) (visits : ℕ) → (not halted && nat_lt visits rounds) ≡ false → visits ≤ rounds → halted ≡ false → visits ≡ rounds
all_made rounds halted visits stays most working = go (nat_lt visits rounds) refl
  where
    go : (b : Bool) → nat_lt visits rounds ≡ b → visits ≡ rounds
    go true e = absurd (let f : true ≡ false = rw (working, e) at stays in cc)
    go false e = let least = not_below visits rounds e in omega arith
      where
        not_below : (a b : ℕ) → nat_lt a b ≡ false → b ≤ a
        not_below a b e = grind (arith, nat_tests)

-- where nothing can be taken, each round was made, but of those that are halted
pub run_is_over : (w : Talking) (run : Run) (h : Held) (ks : List Kept) → IsTable w run h → map Some ks ≡ h.slots → next_place run.rounds h.slots ≡ None → IsRunOver w run ks
run_is_over w run h ks table is none = record {
  tracks_are = are_tracks w run h ks table is;
  visited = λ i d within. (
      let slots : AreSlots w run.rounds h.books 0 run.targets (map Some ks) h.seen = subst (λ s. AreSlots w run.rounds h.books 0 run.targets s h.seen) (sym is) table.targets in
      let most = within_rounds w run.rounds h.books 0 run.targets ks h.seen i d slots within in
      let nobody : next_place run.rounds (map Some ks) ≡ None = ap (next_place run.rounds) is ∙ none in
      let inside : i < length (map Some ks) = (let l = length-slots ks in omega arith) in
      let stays : may_leave run.rounds (Some (get_or ks i d)) ≡ false = none_passes visits_in (may_leave run.rounds) (map Some ks) i (Some (get_or ks i d)) nobody inside (get_or-map ks i d (Some (get_or ks i d)) within) in
      record {
        all = λ working. all_made run.rounds (get_or ks i d).halted (get_or ks i d).counts.visits stays most.0 working;
        left = most.1;
      }
      );
}
