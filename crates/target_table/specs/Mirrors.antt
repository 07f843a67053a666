-- The table under the lock and the machine of its steps: when the one shows the other.
-- The bridge's own.
use Rattle.std.specs.Prelude.{◌≡◌, ℕ, ◌+◌, ◌⊎◌, false, List, [], ◌∷◌, Option, Some, None, is_none, ⊤}
use Rattle.std.specs.List.{slice_get}
use Rattle.page_model.specs.declared.event.Shown.{Shown}
use Rattle.page_model.specs.declared.event.Outcome.{Outcome}
use Rattle.target_core.specs.Events.{latest_shown}
use Rattle.bridge_ports.specs.declared.talk.Talk.{Talk}
use Rattle.series_table.specs.Emission.{IsHistoryOf}
use Rattle.series_table.specs.declared.visited.Visited.{Visited}
use Rattle.series_table.specs.Talking.{Talking}
use Rattle.target_table.specs.Runs.{Run}
use Rattle.series_table.specs.Records.{Kept, Visits, talks_of}
use Rattle.target_table.specs.Machine.{OneTarget, Deed, taking, putting, deed_at, paging, visits_of, May, Allowed, done, step_from, pages_seen}
use Rattle.federation_page.specs.Gathering.{federated_page}
use Rattle.target_table.specs.Tables.{Held, Leased, IsTable, TakesTarget, MayBePut, PutsTarget}

-- a track has what the machine has of its target: its wires tell the same talks
pub record TrackMirrors (k : Kept) (o : OneTarget) : Type 0 where
  pub followed : k.followed ≡ o.followed
  pub scrapes : talks_of k.scrape ≡ Some o.scrapes
  pub posts : talks_of k.post ≡ Some o.posts
  pub halted : k.halted ≡ o.halted
  pub visits : k.counts.visits ≡ visits_of o
  pub shown : k.shown ≡ latest_shown o.followed.target o.events

-- a slot has it: of a target that is out the track is elsewhere
abbrev pub SlotMirrors : Option Kept → OneTarget → Type 0
SlotMirrors None o = is_none o.out ≡ false
SlotMirrors (Some k) o = (o.out ≡ None) × TrackMirrors k o

-- the table has what the machine has of each target, and readers see the same
abbrev pub Mirrors : List (Option Kept) → List Shown → List OneTarget → Type 0
Mirrors [] [] [] = ⊤
Mirrors (slot ∷ slots) (s ∷ seen) (o ∷ state) = SlotMirrors slot o × (s ≡ o.seen) × Mirrors slots seen state
Mirrors _ _ _ = ⊥

-- a take of the table is the machine's
abbrev pub TakeIsAStep : Talking → Type 0
TakeIsAStep w = (run : Run) (lane : ℕ) (before after : Held) (l : Leased) (state : List OneTarget) → IsTable w run before → Mirrors before.slots before.seen state → (t : TakesTarget w run lane before after l)
    → Allowed w run.rounds state (deed_at t.place (taking lane)) × Mirrors after.slots after.seen (step_from state (deed_at t.place (taking lane)))

-- a talk comes to one outcome
abbrev pub HasOneOutcome : Talking → Type 0
HasOneOutcome w = (limit most : ℕ) (talk : Talk) (a b : Outcome) → w.HasOutcome limit most talk a → w.HasOutcome limit most talk b → a ≡ b

-- a deed of the machine, or none, leads to what the track has afterwards
abbrev pub IsDeedOrNone : Talking → ℕ → OneTarget → Kept → Type 0
IsDeedOrNone w rounds o after = ((deed : Deed) × May w rounds deed o × TrackMirrors after (done deed o)) ⊎ TrackMirrors after o

-- where a talk comes to one outcome, what a visit of a track does is a visit or a halt of the machine's target, or no step where it was halted before
abbrev pub VisitIsAStep : Talking → Type 0
VisitIsAStep w = (lane rounds : ℕ) (before after : Kept) (v : Visited) (o : OneTarget) → HasOneOutcome w → TrackMirrors before o → IsHistoryOf w o.followed o.scrapes o.events
    → Visits w before after v → o.out ≡ Some (record { lane = lane; from = visits_of o }) → IsDeedOrNone w rounds o after

-- a put of the table is the machine's
abbrev pub PutIsAStep : Talking → Type 0
PutIsAStep w = (run : Run) (lane place : ℕ) (before after : Held) (l : Leased) (state : List OneTarget) (o : OneTarget) → IsTable w run before → Mirrors before.slots before.seen state
    → slice_get state place ≡ Some o → l.number ≡ place + 1 → o.out ≡ Some (record { lane = lane; from = l.from }) → TrackMirrors l.track o → MayBePut l → PutsTarget lane before after l
    → May w run.rounds (putting lane) o × Mirrors after.slots after.seen (step_from state (deed_at place (putting lane)))

-- a page of the table is the machine's: it may always be asked for, it changes nothing, and it is that of what the machine's targets show
abbrev pub PageIsAStep : Talking → Type 0
PageIsAStep w = (rounds : ℕ) (h : Held) (state : List OneTarget) → Mirrors h.slots h.seen state
    → Allowed w rounds state paging × Mirrors h.slots h.seen (step_from state paging) × (federated_page h.seen ≡ federated_page (pages_seen state))
