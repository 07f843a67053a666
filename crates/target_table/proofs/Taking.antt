-- What a take makes, over plain values.
use Rattle.std.proofs.Common.{◌≡◌, ℕ, zero, suc, ◌+◌, ◌-◌, ◌<◌, ◌≤◌, true, false, List, [], ◌∷◌, length, unwrap_or, Option, Some, None, refl, sym, ap, subst, ◌∙◌, arith}
use Rattle.std.specs.List.{slice_get}
use Rattle.std.proofs.Math.ListN.{set}
use Rattle.std.proofs.lemmas.Option.{none-some, same_Some}
use Rattle.series_table.specs.Talking.{Talking, Followed}
use Rattle.target_table.specs.Runs.{Run, most_of_run}
use Rattle.page_model.specs.declared.event.Shown.{Shown}
use Rattle.series_table.specs.Records.{Kept, IsTrack, most_visits}
use Rattle.target_table.specs.Machine.{changed_at}
use Rattle.target_table.specs.Tables.{Held, next_place, may_leave, visits_in, IsTable, IsLease, TakesTarget, AreSlots, AreNumbers, PutsTarget}
use Rattle.series_table.specs.Moving.{without_second}
use Rattle.target_table.proofs.Tabled.{IsTakenTrack, same_length, turn-passes, turn-within, turn_is_taken, out_is_empty}

pub set_changed : {A : Type 0} (xs : List A) (i : ℕ) (y : A) → set xs i y ≡ changed_at (λ _. y) xs i
set_changed [] i y = refl
set_changed (x ∷ xs) zero y = refl
set_changed (x ∷ xs) (suc i) y = ap (λ ys. x ∷ ys) (set_changed xs i y)

-- the place that was found is that of the run's next target
pub turn_found : (rounds all : ℕ) (slots seen : List (Option Kept)) (found : Option ℕ) (place : ℕ) → rounds ≡ all → seen ≡ slots → found ≡ next_place rounds seen → found ≡ Some place → next_place all slots ≡ Some place
turn_found rounds all slots seen found place same looked is at = ap (λ n. next_place n slots) (sym same) ∙ ap (next_place rounds) (sym looked) ∙ sym is ∙ at

pub place_within : (w : Talking) (run : Run) (h : Held) (place : ℕ) → IsTable w run h → next_place run.rounds h.slots ≡ Some place → place < length h.slots
place_within w run h place table turn = turn-within visits_in (may_leave run.rounds) h.slots place turn

pub place_few : (w : Talking) (run : Run) (h : Held) (place : ℕ) → IsTable w run h → next_place run.rounds h.slots ≡ Some place → place < most_of_run
place_few w run h place table turn = let a = place_within w run h place table turn in let b = table.few in omega arith

pub never_empty : (rounds : ℕ) (slots : List (Option Kept)) (place : ℕ) → next_place rounds slots ≡ Some place → slice_get slots place ≡ Some None → ⊥
never_empty rounds slots place turn there = let h : false ≡ true = turn-passes visits_in (may_leave rounds) slots place None turn there in cc

pub taken : (w : Talking) (run : Run) (lane place number from : ℕ) (before after : Held) (k : Kept) → IsTable w run before → next_place run.rounds before.slots ≡ Some place → slice_get before.slots place ≡ Some (Some k)
    → number ≡ place + 1 → from ≡ k.counts.visits → after.slots ≡ changed_at (λ _. None) before.slots place → after.books ≡ changed_at (λ _. number) before.books lane → after.seen ≡ before.seen
    → TakesTarget w run lane before after (record { number = number; track = k; from = from })
taken w run lane place number from before after k table turn there number_is from_is slots books seen =
    let t : IsTakenTrack w run place k = turn_is_taken w run before place k table turn there in
    record {
      place = place;
      followed = t.followed;
      turn = turn;
      was = there;
      lease = record { number = number_is; target = t.target; track = t.track; from = (let l = t.left in omega arith) };
      from = from_is;
      no_second = t.no_second;
      slots = slots;
      books = books;
      seen = seen;
    }

-- the facts of the lease
pub lease_facts : (w : Talking) (run : Run) (place number from : ℕ) (h : Held) (k : Kept) → IsTable w run h → next_place run.rounds h.slots ≡ Some place → slice_get h.slots place ≡ Some (Some k) → number ≡ place + 1 → from ≡ k.counts.visits
    → (0 < number) × (slice_get run.targets (number - 1) ≡ Some k.followed) × (k.scrape.place ≡ record { number = number; post = false }) × (k.post.place ≡ record { number = number; post = true }) × (from < run.rounds) × (from < most_visits)
lease_facts w run place number from h k table turn there number_is from_is =
    let t : IsTakenTrack w run place k = turn_is_taken w run h place k table turn there in
    let at : number - 1 ≡ place = omega arith in (
      omega arith,
      ap (slice_get run.targets) at ∙ t.target ∙ ap Some (sym t.track.followed),
      t.track.scrape_place ∙ ap (λ n. record { number = n; post = false }) (sym number_is),
      t.track.post_place ∙ ap (λ n. record { number = n; post = true }) (sym number_is),
      (let l = t.left in omega arith),
      (let l = t.left in let r = table.run_is.rounds.1 in omega arith),
    )

-- ---- what a put makes

pub as_many : (w : Talking) (rounds : ℕ) (books : List ℕ) (from : ℕ) (fs : List Followed) (slots : List (Option Kept)) (seen : List Shown) → AreSlots w rounds books from fs slots seen → length seen ≡ length slots
as_many w rounds books from [] [] [] h = refl
as_many w rounds books from (f ∷ fs) (slot ∷ slots) (s ∷ seen) h = ap suc (as_many w rounds books (from + 1) fs slots seen h.1)
as_many w rounds books from [] (slot ∷ slots) seen h = absurd h
as_many w rounds books from [] [] (s ∷ seen) h = absurd h
as_many w rounds books from (f ∷ fs) [] seen h = absurd h
as_many w rounds books from (f ∷ fs) (slot ∷ slots) [] h = absurd h

number_of_lane : (most number : ℕ) (books : List ℕ) (lane : ℕ) → AreNumbers most books → slice_get books lane ≡ Some number → number ≤ most
number_of_lane most number [] lane h e = absurd (none-some number e)
number_of_lane most number (n ∷ ns) zero h e = subst (λ x. x ≤ most) (same_Some n number e) h.0
number_of_lane most number (n ∷ ns) (suc lane) h e = number_of_lane most number ns lane h.1 e

slice_get-some : {A : Type 0} (xs : List A) (i : ℕ) → i < length xs → (x : A) × (slice_get xs i ≡ Some x)
slice_get-some [] i within = absurd (omega arith)
slice_get-some (x ∷ xs) zero within = (x, refl)
slice_get-some (x ∷ xs) (suc i) within = slice_get-some xs i (omega arith)

-- the place of a number that a lane's book has is one of a slot, which is empty
pub put_place : (w : Talking) (run : Run) (h : Held) (lane number : ℕ) → IsTable w run h → slice_get h.books lane ≡ Some number → 0 < number
    → (number - 1 < length h.slots) × (number - 1 < length h.seen) × (slice_get h.slots (number - 1) ≡ Some None)
put_place w run h lane number table held some =
    let few = number_of_lane (length h.slots) number h.books lane table.numbers held in
    let many = as_many w run.rounds h.books 0 run.targets h.slots h.seen table.targets in
    let inside : number - 1 < length h.slots = omega arith in
    let slot = slice_get-some h.slots (number - 1) inside in
    let number_again : number ≡ number - 1 + 1 = omega arith in
    let is : slice_get h.books lane ≡ Some (number - 1 + 1) = held ∙ ap Some number_again in
    (inside, omega arith, slot.1 ∙ ap Some (out_is_empty w run h lane (number - 1) slot.0 table is slot.1))

pub lease_of : (w : Talking) (run : Run) (number from : ℕ) (k : Kept) → 0 < number → slice_get run.targets (number - 1) ≡ Some k.followed → k.scrape.place ≡ record { number = number; post = false } → k.post.place ≡ record { number = number; post = true }
    → from < run.rounds → IsTrack w k → IsLease w run (record { number = number; track = k; from = from }) (number - 1) k.followed
lease_of w run number from k some target scrape post left facts =
    let again : number ≡ number - 1 + 1 = omega arith in
    record {
      number = again;
      target = target;
      from = left;
      track = record { followed = refl; scrape_place = scrape ∙ ap (λ n. record { number = n; post = false }) again; post_place = post ∙ ap (λ n. record { number = n; post = true }) again; track = facts };
    }

pub puts : (lane number from : ℕ) (before after : Held) (k t : Kept) (second : Option Shown) → 0 < number → after.slots ≡ changed_at (λ _. Some t) before.slots (number - 1) → t ≡ without_second k
    → after.books ≡ changed_at (λ _. 0) before.books lane → after.seen ≡ changed_at (λ s. unwrap_or second s) before.seen (number - 1) → second ≡ k.second → PutsTarget lane before after (record { number = number; track = k; from = from })
puts lane number from before after k t second some slots track_is books seen second_is = record {
  place = number - 1;
  number = omega arith;
  slots = slots ∙ ap (λ x. changed_at (λ _. Some x) before.slots (number - 1)) track_is;
  books = books;
  seen = seen ∙ ap (λ o. changed_at (λ s. unwrap_or o s) before.seen (number - 1)) second_is;
}

-- there is room for as many tracks as before
pub still_room : {A : Type 0} (f : A → A) (old new : List A) (place room : ℕ) → new ≡ changed_at f old place → length old ≤ room → length new ≤ room
still_room f old new place room is fits = let same : length new ≡ length old = ap length is ∙ same_length f old place in omega arith
