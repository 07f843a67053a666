-- The table of targets as a machine: what it has of each target, its steps, and its runs. Steps stand with the last first.
-- The bridge's own.
use Rattle.std.specs.Prelude.{◌≡◌, ℕ, zero, suc, ◌+◌, ◌≤◌, ◌⊎◌, Bool, true, false, not, ◌&&◌, ◌==◌, nat_lt, nat_le, List, [], ◌∷◌, ◌++◌, map, length, filter, filter_map, Option, Some, None, is_none, option_and_then, ⊤, if◌then◌else◌}
use Rattle.std.specs.List.{slice_get}
use Rattle.page_model.specs.declared.event.Event.{Event}
use Rattle.page_model.specs.declared.event.Shown.{Shown}
use Rattle.target_core.specs.Events.{latest_shown}
use Rattle.bridge_ports.specs.declared.talk.Talk.{Talk}
use Rattle.otlp_sender.specs.declared.posted.Posted.{Posted}
use Rattle.series_table.specs.Talking.{Talking, Followed}
use Rattle.target_table.specs.Runs.{Run}
use Rattle.series_table.specs.Bodies.{CameOfText}
use Rattle.series_table.specs.Emission.{IsEventOf, post_text_after}

-- ---- states

-- with which lane a target is out, and how many visits it had when it was taken
pub record Out : Type 0 where
  pub lane : ℕ
  pub from : ℕ

-- what the machine has of a target: its talks so far, the events that they tell and what came of their bodies, the last first; and the page that readers see
pub record OneTarget : Type 0 where
  pub followed : Followed
  pub out : Option Out
  pub scrapes : List Talk
  pub posts : List Talk
  pub events : List Event
  pub posted : List Posted
  pub halted : Bool
  pub seen : Shown

-- how many visits are counted
abbrev pub visits_of : OneTarget → ℕ
visits_of o = length o.events

-- the target at the start: at home, without talks
unfoldable pub fresh : Followed → OneTarget
fresh f = record { followed = f; out = None; scrapes = []; posts = []; events = []; posted = []; halted = false; seen = latest_shown f.target [] }

-- ---- whose turn it is

-- the target is at home, is not halted, and has a visit left
abbrev pub may_go : ℕ → OneTarget → Bool
may_go rounds o = is_none o.out && not o.halted && nat_lt (visits_of o) rounds

-- the place of the first of the elements that pass the test
abbrev pub place_where : {A : Type 0} → (A → Bool) → List A → Option ℕ
place_where test [] = None
place_where test (x ∷ xs) = if test x then Some 0 else option_and_then (λ n. Some (n + 1)) (place_where test xs)

-- the smallest of numbers, where there is one
abbrev pub smallest : List ℕ → Option ℕ
smallest [] = None
smallest (n ∷ ns) = Some (below n (smallest ns))
  where
    below : ℕ → Option ℕ → ℕ
    below n None = n
    below n (Some m) = if nat_le n m then n else m

-- the fewest visits of those that pass the test
abbrev pub fewest : {A : Type 0} → (A → ℕ) → (A → Bool) → List A → Option ℕ
fewest visits test xs = smallest (map visits (filter test xs))

-- the place of the one whose turn it is: the first of those that may go and have the fewest visits
unfoldable pub turn_of : {A : Type 0} → (A → ℕ) → (A → Bool) → List A → Option ℕ
turn_of visits test xs = option_and_then (λ n. place_where (λ x. test x && visits x == n) xs) (fewest visits test xs)

-- ---- steps

-- what may be done with a target: a lane takes it; it is visited, with its talk, the event that the talk tells, the talks of its body, the last first, and what they came to; it halts, with at most one more talk; a lane puts it back
pub data Deed : Type 0 where
  taking : ℕ → Deed
  visiting : ℕ → Talk → Event → List Talk → Posted → Deed
  halting : ℕ → List Talk → Deed
  putting : ℕ → Deed

-- one step of the table: something is done with the target at a place, or a page is asked for
pub data TableStep : Type 0 where
  deed_at : ℕ → Deed → TableStep
  paging : TableStep

-- a visit may be made: one since the target was taken by the lane, whose talk is whole, and whose body is posted
pub record MayVisit (w : Talking) (lane : ℕ) (talk : Talk) (e : Event) (tried : List Talk) (p : Posted) (o : OneTarget) : Type 0 where
  pub out : o.out ≡ Some (record { lane = lane; from = visits_of o })
  pub working : o.halted ≡ false
  pub event : IsEventOf w o.followed talk e
  pub posts : CameOfText w o.followed.settings.tries (post_text_after w o.followed o.events e) tried p

-- the target may halt: it is out with the lane and is not halted
pub record MayHalt (lane : ℕ) (talks : List Talk) (o : OneTarget) : Type 0 where
  pub from : ℕ
  pub out : o.out ≡ Some (record { lane = lane; from = from })
  pub working : o.halted ≡ false
  pub few : length talks ≤ 1

-- the target may be put back: it is halted, or has one visit more than when the lane took it
pub record MayPut (lane : ℕ) (o : OneTarget) : Type 0 where
  pub from : ℕ
  pub out : o.out ≡ Some (record { lane = lane; from = from })
  pub due : (o.halted ≡ true) ⊎ (visits_of o ≡ from + 1)

-- this may be done with a target
abbrev pub May : Talking → ℕ → Deed → OneTarget → Type 0
May w rounds (taking lane) o = may_go rounds o ≡ true
May w rounds (visiting lane talk e tried p) o = MayVisit w lane talk e tried p o
May w rounds (halting lane talks) o = MayHalt lane talks o
May w rounds (putting lane) o = MayPut lane o

-- what is taken is the target whose turn it is
abbrev pub InTurn : ℕ → List OneTarget → ℕ → Deed → Type 0
InTurn rounds state place (taking lane) = turn_of visits_of (may_go rounds) state ≡ Some place
InTurn rounds state place _ = ⊤

-- a target at a place with which this may be done, in its turn
pub record MayBeDone (w : Talking) (rounds : ℕ) (state : List OneTarget) (place : ℕ) (deed : Deed) : Type 0 where
  pub target : OneTarget
  pub there : slice_get state place ≡ Some target
  pub may : May w rounds deed target
  pub turn : InTurn rounds state place deed

-- the step may be made
abbrev pub Allowed : Talking → ℕ → List OneTarget → TableStep → Type 0
Allowed w rounds state (deed_at place deed) = MayBeDone w rounds state place deed
Allowed w rounds state paging = ⊤

-- ---- what a step changes

-- the list with another element at this place
abbrev pub changed_at : {A : Type 0} → (A → A) → List A → ℕ → List A
changed_at f [] place = []
changed_at f (x ∷ xs) zero = f x ∷ xs
changed_at f (x ∷ xs) (suc place) = x ∷ changed_at f xs place

-- out with a lane
unfoldable pub taken_by : ℕ → OneTarget → OneTarget
taken_by lane o = record { followed = o.followed; out = Some (record { lane = lane; from = visits_of o }); scrapes = o.scrapes; posts = o.posts; events = o.events; posted = o.posted; halted = o.halted; seen = o.seen }

-- one visit more
unfoldable pub visited_with : Talk → Event → List Talk → Posted → OneTarget → OneTarget
visited_with talk e tried p o = record {
  followed = o.followed;
  out = o.out;
  scrapes = talk ∷ o.scrapes;
  posts = tried ++ o.posts;
  events = e ∷ o.events;
  posted = p ∷ o.posted;
  halted = o.halted;
  seen = o.seen;
}

-- halted
unfoldable pub halted_with : List Talk → OneTarget → OneTarget
halted_with talks o = record { followed = o.followed; out = o.out; scrapes = talks ++ o.scrapes; posts = o.posts; events = o.events; posted = o.posted; halted = true; seen = o.seen }

-- the target has a visit since it was taken
abbrev pub was_visited : OneTarget → Bool
was_visited o = since o.out
  where
    since : Option Out → Bool
    since None = false
    since (Some out) = nat_lt out.from (visits_of o)

-- at home, and seen with its latest page where it was visited
unfoldable pub put_back : OneTarget → OneTarget
put_back o = record {
  followed = o.followed;
  out = None;
  scrapes = o.scrapes;
  posts = o.posts;
  events = o.events;
  posted = o.posted;
  halted = o.halted;
  seen = if was_visited o then latest_shown o.followed.target o.events else o.seen;
}

-- the target after this was done with it
abbrev pub done : Deed → OneTarget → OneTarget
done (taking lane) o = taken_by lane o
done (visiting lane talk e tried p) o = visited_with talk e tried p o
done (halting lane talks) o = halted_with talks o
done (putting lane) o = put_back o

-- the state after a step
abbrev pub step_from : List OneTarget → TableStep → List OneTarget
step_from state (deed_at place deed) = changed_at (done deed) state place
step_from state paging = state

-- ---- runs

-- all targets at home, without talks
abbrev pub start_of_run : Run → List OneTarget
start_of_run run = map fresh run.targets

-- the state after these steps
abbrev pub state_after : Run → List TableStep → List OneTarget
state_after run [] = start_of_run run
state_after run (step ∷ earlier) = step_from (state_after run earlier) step

-- the steps are a run: each may be made where the earlier ones led
abbrev pub TableRun : Talking → Run → List TableStep → Type 0
TableRun w run [] = ⊤
TableRun w run (step ∷ earlier) = Allowed w run.rounds (state_after run earlier) step × TableRun w run earlier

-- what the reader of a page sees: a page of each target, in order
abbrev pub pages_seen : List OneTarget → List Shown
pages_seen state = map (λ (o : OneTarget). o.seen) state

-- ---- the steps of one target

-- the step of the target at this place, as one of a table that has this target alone
abbrev pub own_step : ℕ → TableStep → Option TableStep
own_step place (deed_at at deed) = if at == place then Some (deed_at 0 deed) else None
own_step place paging = None

-- the target's own steps
abbrev pub own_steps : ℕ → List TableStep → List TableStep
own_steps place steps = filter_map (own_step place) steps

-- the run that has this target alone
abbrev pub alone : Followed → ℕ → Run
alone f rounds = record { targets = f ∷ []; rounds = rounds }
