-- What the lock keeps: slots, books and shown pages; and what the calls of the table do to them.
-- The bridge's own.
use Rattle.std.specs.Prelude.{◌≡◌, ◌≢◌, ℕ, ◌+◌, ◌≤◌, ◌<◌, Bool, true, false, not, ◌&&◌, ◌==◌, nat_lt, List, [], ◌∷◌, length, filter, Option, Some, None, unwrap_or, All, ⊤}
use Rattle.std.specs.List.{slice_get}
use Rattle.page_model.specs.declared.event.Shown.{Shown}
use Rattle.series_table.specs.Talking.{Talking, Followed}
use Rattle.target_table.specs.Runs.{Run, IsRightRun, most_of_run}
use Rattle.series_table.specs.Records.{Kept, IsShownOf}
use Rattle.series_table.specs.Tracks.{IsTrackAt, HasAllVisits, AreTracks}
use Rattle.series_table.specs.Moving.{without_second}
use Rattle.target_table.specs.Machine.{turn_of, changed_at}

-- ---- the value under the lock

-- the slot of each target with its track where that is at home, the number that each lane's book has, and the page of each target that readers see
pub record Held : Type 0 where
  pub slots : List (Option Kept)
  pub books : List ℕ
  pub seen : List Shown

-- a track that may be taken
abbrev pub may_be_taken : ℕ → Kept → Bool
may_be_taken rounds k = not k.halted && nat_lt k.counts.visits rounds

-- the slot has a track that may be taken
abbrev pub may_leave : ℕ → Option Kept → Bool
may_leave rounds None = false
may_leave rounds (Some k) = may_be_taken rounds k

-- the visits of the track in a slot, 0 where it is out
abbrev pub visits_in : Option Kept → ℕ
visits_in None = 0
visits_in (Some k) = k.counts.visits

-- the place of the target that is taken next
abbrev pub next_place : ℕ → List (Option Kept) → Option ℕ
next_place rounds slots = turn_of visits_in (may_leave rounds) slots

-- how many lanes are out with this number
abbrev pub holders : ℕ → List ℕ → ℕ
holders number books = length (filter (λ n. n == number) books)

-- how many targets are out
abbrev pub targets_out : List ℕ → ℕ
targets_out books = length (filter (λ n. not (n == 0)) books)

-- ---- what it keeps

-- a track that is at home: at most `rounds` visits, fewer where it is halted, no second page, and readers see what it shows, where it isn't halted
pub record IsTrackHome (w : Talking) (rounds : ℕ) (f : Followed) (place : ℕ) (seen : Shown) (k : Kept) : Type 0 where
  pub at : IsTrackAt w f place k
  pub visits : k.counts.visits ≤ rounds
  pub left : k.halted ≡ true → k.counts.visits < rounds
  pub no_second : k.second ≡ None
  pub seen_is : k.halted ≡ false → seen ≡ k.shown

-- what is kept of one target: no lane is out with its number where it is at home, and one is where it is out
abbrev pub IsSlot : Talking → ℕ → Followed → ℕ → List ℕ → Shown → Option Kept → Type 0
IsSlot w rounds f place books seen None = IsShownOf f seen × (holders (place + 1) books ≡ 1)
IsSlot w rounds f place books seen (Some k) = IsShownOf f seen × (holders (place + 1) books ≡ 0) × IsTrackHome w rounds f place seen k

-- the same of each target from this place on
abbrev pub AreSlots : Talking → ℕ → List ℕ → ℕ → List Followed → List (Option Kept) → List Shown → Type 0
AreSlots w rounds books place [] [] [] = ⊤
AreSlots w rounds books place (f ∷ fs) (slot ∷ slots) (s ∷ seen) = IsSlot w rounds f place books s slot × AreSlots w rounds books (place + 1) fs slots seen
AreSlots w rounds books place _ _ _ = ⊥

-- each number is that of a target, or 0
abbrev pub AreNumbers : ℕ → List ℕ → Type 0
AreNumbers most [] = ⊤
AreNumbers most (number ∷ books) = (number ≤ most) × AreNumbers most books

-- what the lock keeps
pub record IsTable (w : Talking) (run : Run) (h : Held) : Type 0 where
  pub run_is : IsRightRun run
  pub targets : AreSlots w run.rounds h.books 0 run.targets h.slots h.seen
  pub few : length h.slots ≤ most_of_run
  pub numbers : AreNumbers (length h.slots) h.books

-- ---- the calls

-- a lease: a target's number, its track, and how many visits it had when it was taken
pub record Leased : Type 0 where
  pub number : ℕ
  pub track : Kept
  pub from : ℕ

-- a lease of the run's target at a place
pub record IsLease (w : Talking) (run : Run) (l : Leased) (place : ℕ) (f : Followed) : Type 0 where
  pub number : l.number ≡ place + 1
  pub target : slice_get run.targets place ≡ Some f
  pub track : IsTrackAt w f place l.track
  pub from : l.from < run.rounds

-- the target whose turn it is was taken by this lane
pub record TakesTarget (w : Talking) (run : Run) (lane : ℕ) (before after : Held) (l : Leased) : Type 0 where
  pub place : ℕ
  pub followed : Followed
  pub turn : next_place run.rounds before.slots ≡ Some place
  pub was : slice_get before.slots place ≡ Some (Some l.track)
  pub lease : IsLease w run l place followed
  pub from : l.from ≡ l.track.counts.visits
  pub no_second : l.track.second ≡ None
  pub slots : after.slots ≡ changed_at (λ _. None) before.slots place
  pub books : after.books ≡ changed_at (λ _. l.number) before.books lane
  pub seen : after.seen ≡ before.seen

-- a track may be put back: it has one visit more than when it was taken, holds the second page of that visit and isn't halted, or is halted without either
pub record MayBePut (l : Leased) : Type 0 where
  pub visited : l.track.counts.visits ≢ l.from → (l.track.counts.visits ≡ l.from + 1) × (l.track.second ≡ Some l.track.shown) × (l.track.halted ≡ false)
  pub halted : l.track.counts.visits ≡ l.from → (l.track.halted ≡ true) × (l.track.second ≡ None)

-- what readers see of a target that was put back: the second page of its track, where there is one
abbrev pub seen_after : Kept → Shown → Shown
seen_after k before = unwrap_or k.second before

-- the target was put back by this lane
pub record PutsTarget (lane : ℕ) (before after : Held) (l : Leased) : Type 0 where
  pub place : ℕ
  pub number : l.number ≡ place + 1
  pub slots : after.slots ≡ changed_at (λ _. Some (without_second l.track)) before.slots place
  pub books : after.books ≡ changed_at (λ _. 0) before.books lane
  pub seen : after.seen ≡ changed_at (seen_after l.track) before.seen place

-- ---- what a run gives back

-- there is one track of each target, in order, and each of its rounds was made, but of those that are halted
pub record IsRunOver (w : Talking) (run : Run) (tracks : List Kept) : Type 0 where
  pub tracks_are : AreTracks w 0 run.targets tracks
  pub visited : All (HasAllVisits run.rounds) tracks
