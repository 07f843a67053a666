-- A new table keeps what the lock keeps.
use Rattle.std.proofs.Common.{◌≡◌, ℕ, suc, ◌+◌, ◌≤◌, true, false, List, [], ◌∷◌, length, map, Option, Some, refl, sym, ap, subst, ◌∙◌, arith}
use Rattle.page_model.specs.declared.event.Shown.{Shown}
use Rattle.series_table.specs.Talking.{Talking, Followed}
use Rattle.series_table.specs.Records.{Kept, IsShownOf}
use Rattle.target_table.specs.Runs.{Run, IsRightRun}
use Rattle.series_table.specs.Tracks.{IsTrackAt, AreTracks, AreUnvisited}
use Rattle.target_table.specs.Tables.{holders, IsSlot, AreSlots, IsTable}
use Rattle.target_table.proofs.Tabled.{hit-other, holders-step}

-- no lane is out
abbrev pub no_books : List ℕ
no_books = 0 ∷ 0 ∷ 0 ∷ 0 ∷ []

pub none_holds : (place : ℕ) → holders (place + 1) no_books ≡ 0
none_holds place =
    let miss = hit-other 0 (place + 1) (λ e. omega arith) in
    let a = holders-step (place + 1) 0 (0 ∷ 0 ∷ 0 ∷ []) in
    let b = holders-step (place + 1) 0 (0 ∷ 0 ∷ []) in
    let c = holders-step (place + 1) 0 (0 ∷ []) in
    let d = holders-step (place + 1) 0 [] in
    omega arith

new_slot : (w : Talking) (rounds : ℕ) (f : Followed) (place : ℕ) (k : Kept) → IsTrackAt w f place k → k.counts.visits ≡ 0 → k.halted ≡ false → IsSlot w rounds f place no_books k.shown (Some k)
new_slot w rounds f place k at unvisited working = (
  subst (λ g. IsShownOf g k.shown) at.followed at.track.shows,
  none_holds place,
  record {
    at = at;
    visits = omega (arith, unvisited);
    left = λ halted. absurd (let e : true ≡ false = sym halted ∙ working in cc);
    no_second = at.track.unvisited unvisited;
    seen_is = λ e. refl;
  },
)

new_slots : (w : Talking) (rounds place : ℕ) (fs : List Followed) (ks : List Kept) → AreTracks w place fs ks → AreUnvisited ks → AreSlots w rounds no_books place fs (map Some ks) (map (λ (k : Kept). k.shown) ks)
new_slots w rounds place [] [] tracks unvisited = tt
new_slots w rounds place (f ∷ fs) (k ∷ ks) tracks unvisited =
    let first = unvisited 0 k (omega arith) in
    (new_slot w rounds f place k tracks.0 first.0 first.1, new_slots w rounds (place + 1) fs ks tracks.1 (λ i d within. unvisited (suc i) d (omega arith)))
new_slots w rounds place [] (k ∷ ks) tracks unvisited = absurd tracks
new_slots w rounds place (f ∷ fs) [] tracks unvisited = absurd tracks

pub length-slots : (ks : List Kept) → length (map Some ks) ≡ length ks
length-slots [] = refl
length-slots (k ∷ ks) = ap suc (length-slots ks)

as_many_slots : (w : Talking) (place : ℕ) (fs : List Followed) (ks : List Kept) → AreTracks w place fs ks → length (map Some ks) ≡ length fs
as_many_slots w place [] [] tracks = refl
as_many_slots w place (f ∷ fs) (k ∷ ks) tracks = ap suc (as_many_slots w (place + 1) fs ks tracks.1)
as_many_slots w place [] (k ∷ ks) tracks = absurd tracks
as_many_slots w place (f ∷ fs) [] tracks = absurd tracks

new_table : (w : Talking) (run : Run) (ks : List Kept) → IsRightRun run → AreTracks w 0 run.targets ks → AreUnvisited ks → IsTable w run (record { slots = map Some ks; books = no_books; seen = map (λ (k : Kept). k.shown) ks })
new_table w run ks right tracks unvisited = record {
  run_is = right;
  targets = new_slots w run.rounds 0 run.targets ks tracks unvisited;
  few = (let e = as_many_slots w 0 run.targets ks tracks in let few = right.few in omega arith);
  numbers = (omega arith, (omega arith, (omega arith, (omega arith, tt))));
}

-- the table of these slots, books and pages
pub is_new_table : (w : Talking) (run : Run) (ks : List Kept) (slots : List (Option Kept)) (books : List ℕ) (seen : List Shown) → IsRightRun run → AreTracks w 0 run.targets ks → AreUnvisited ks
    → slots ≡ map Some ks → books ≡ no_books → seen ≡ map (λ (k : Kept). k.shown) ks → IsTable w run (record { slots = slots; books = books; seen = seen })
is_new_table w run ks slots books seen right tracks unvisited a b c =
    subst (λ x. IsTable w run (record { slots = x; books = books; seen = seen })) (sym a)
    (subst (λ x. IsTable w run (record { slots = map Some ks; books = x; seen = seen })) (sym b)
    (subst (λ x. IsTable w run (record { slots = map Some ks; books = no_books; seen = x })) (sym c) (new_table w run ks right tracks unvisited)))

-- there is room for the tracks of the slots
pub room_for_tracks : (ks : List Kept) (slots : List (Option Kept)) (n cap room : ℕ) → slots ≡ map Some ks → n ≡ length ks → n ≤ cap → room ≡ cap → length slots ≤ room
room_for_tracks ks slots n cap room is len fits same = let all : length slots ≡ length ks = ap length is ∙ length-slots ks in omega arith

-- where each share has 0, no lane is out
pub all_free : (books : List ℕ) (a b c d : ℕ) → books ≡ a ∷ b ∷ c ∷ d ∷ [] → (a ≡ 0) × (b ≡ 0) × (c ≡ 0) × (d ≡ 0) → books ≡ no_books
all_free books a b c d is none = is ∙ (λ i. none.0 i ∷ none.1 i ∷ none.2 i ∷ none.3 i ∷ [])
