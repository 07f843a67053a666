-- Runs of a table of two targets and two lanes, by computation. What the layers below say of talks is as simple as it can be.
use Rattle.std.proofs.Common.{◌≡◌, ℕ, ◌+◌, ◌<◌, ◌⊎◌, inl, inr, true, false, List, [], ◌∷◌, map, Option, Some, None, codes, refl, ap, arith}
use Rattle.std.specs.List.{slice_get}
use Rattle.page_model.specs.declared.event.Outcome.TheVariants as outcomes
use Rattle.page_model.specs.declared.event.Event.{Event}
use Rattle.page_model.specs.declared.event.Shown.{Shown}
use Rattle.page_model.specs.Presence.{empty_page}
use Rattle.start_times.specs.Scrapes.{scrape_after}
use Rattle.target_core.specs.Events.{latest_shown}
use Rattle.bridge_ports.specs.declared.talk.End.TheVariants as ends
use Rattle.bridge_ports.specs.declared.talk.Talk.{Talk}
use Rattle.otlp_sender.specs.declared.posted.Try.TheVariants as tries
use Rattle.otlp_sender.specs.declared.posted.Posted.{Posted}
use Rattle.otlp_sender.specs.declared.posted.Posted.TheVariants as posted
use Rattle.series_table.specs.Talking.{Talking, Followed}
use Rattle.target_table.specs.Runs.{Run}
use Rattle.otlp_sender.specs.Posting.{is_open, posted_of}
use Rattle.target_table.specs.Machine.{Out, OneTarget, TableStep, taking, visiting, halting, putting, deed_at, paging, fresh, may_go, visits_of, turn_of, MayPut, MayVisit, taken_by, visited_with, halted_with, put_back, state_after, pages_seen, own_steps, alone}

-- ---- words of the cases

-- a target
abbrev target : List ℕ → Followed
target job = record {
  target = record { job = job; instance = codes "h:1"; address = record { host = codes "h"; port = 1; path = codes "/m" }; honor = false };
  to = record { host = codes "c"; port = 4318; path = codes "/p" };
  settings = record { keep = 2; tries = 2; limit = 10; max_page = 1024; interval = 0 };
  scrape_plan = None;
  post_plan = None;
}

-- two targets, each visited so often
abbrev two : ℕ → Run
two rounds = record { targets = target (codes "a") ∷ target (codes "b") ∷ []; rounds = rounds }

-- a talk at a reading
abbrev talk_at : ℕ → Talk
talk_at at = record { at = at; sent = codes "G"; got = []; end = ends.Left }

-- the event of a scrape that gave the page without families
abbrev event_at : ℕ → Event
event_at at = record { reading = at; outcome = outcomes.Page empty_page }

-- a lane takes, visits at a reading, and puts back the target at a place
abbrev takes : ℕ → ℕ → TableStep
takes lane place = deed_at place (taking lane)

abbrev visits : ℕ → ℕ → ℕ → TableStep
visits lane place at = deed_at place (visiting lane (talk_at at) (event_at at) (talk_at 0 ∷ []) (posted.Accepted 200))

abbrev halts : ℕ → ℕ → TableStep
halts lane place = deed_at place (halting lane (talk_at 9 ∷ []))

abbrev puts : ℕ → ℕ → TableStep
puts lane place = deed_at place (putting lane)

-- whose turn it is behind these steps
abbrev turn_after : ℕ → List TableStep → Option ℕ
turn_after rounds steps = turn_of visits_of (may_go rounds) (state_after (two rounds) steps)

-- the moments of the pages that readers see behind these steps
abbrev moments_seen : List TableStep → List (Option ℕ)
moments_seen steps = map (λ (s : Shown). s.moment) (pages_seen (state_after (two 2) steps))

-- talks that are whole where they sent the text, and whose outcome and verdict are always the same
abbrev simple : Talking
simple = record {
  get_request = λ to. codes "G";
  post_request = λ to body. codes "G";
  IsWholeTalk = λ most text talk. talk.sent ≡ text;
  HasOutcome = λ limit most talk outcome. outcome ≡ outcomes.Page empty_page;
  IsPostRun = λ most text talks v. (map (λ (t : Talk). t.sent) talks ≡ text ∷ []) × (v ≡ tries.Status 200);
}

-- ---- two lanes, one round: four orders of the same steps, the last first

-- one lane after the other
abbrev in_turn : List TableStep
in_turn = puts 1 1 ∷ visits 1 1 20 ∷ takes 1 1 ∷ puts 0 0 ∷ visits 0 0 10 ∷ takes 0 0 ∷ []

-- both out at once, the first is visited first
abbrev at_once : List TableStep
at_once = puts 1 1 ∷ puts 0 0 ∷ visits 1 1 20 ∷ visits 0 0 10 ∷ takes 1 1 ∷ takes 0 0 ∷ []

-- both out at once, the second is visited first
abbrev crossed : List TableStep
crossed = puts 0 0 ∷ visits 0 0 10 ∷ puts 1 1 ∷ visits 1 1 20 ∷ takes 1 1 ∷ takes 0 0 ∷ []

-- the second is taken while the first is put back, and a page is asked for in between
abbrev with_page : List TableStep
with_page = puts 1 1 ∷ visits 1 1 20 ∷ paging ∷ puts 0 0 ∷ takes 1 1 ∷ visits 0 0 10 ∷ takes 0 0 ∷ []

same_end_at_once : state_after (two 1) at_once ≡ state_after (two 1) in_turn
same_end_at_once = refl

same_end_crossed : state_after (two 1) crossed ≡ state_after (two 1) in_turn
same_end_crossed = refl

same_end_with_page : state_after (two 1) with_page ≡ state_after (two 1) in_turn
same_end_with_page = refl

own_of_first : own_steps 0 crossed ≡ puts 0 0 ∷ visits 0 0 10 ∷ takes 0 0 ∷ []
own_of_first = refl

own_of_second : own_steps 1 with_page ≡ puts 1 0 ∷ visits 1 0 20 ∷ takes 1 0 ∷ []
own_of_second = refl

alone_is_the_same : map Some (state_after (alone (target (codes "b")) 1) (own_steps 1 crossed)) ≡ slice_get (state_after (two 1) crossed) 1 ∷ []
alone_is_the_same = refl

-- ---- whose turn it is

first_turn : turn_after 1 [] ≡ Some 0
unfolding turn_of fresh
first_turn = refl

second_turn : turn_after 1 (takes 0 0 ∷ []) ≡ Some 1
unfolding turn_of fresh taken_by
second_turn = refl

all_out : turn_after 1 (takes 1 1 ∷ takes 0 0 ∷ []) ≡ None
unfolding turn_of fresh taken_by
all_out = refl

-- with rounds left, the one with fewer visits goes first
fewest_first : turn_after 2 (puts 0 0 ∷ visits 0 0 10 ∷ takes 0 0 ∷ []) ≡ Some 1
unfolding turn_of fresh taken_by visited_with put_back
fewest_first = refl

-- among equals the first
lowest_first : turn_after 2 in_turn ≡ Some 0
unfolding turn_of fresh taken_by visited_with put_back
lowest_first = refl

-- while the other is out a target may go twice
runs_ahead : turn_after 2 (puts 0 0 ∷ visits 0 0 10 ∷ takes 1 1 ∷ takes 0 0 ∷ []) ≡ Some 0
unfolding turn_of fresh taken_by visited_with put_back
runs_ahead = refl

all_rounds_done : turn_after 1 in_turn ≡ None
unfolding turn_of fresh taken_by visited_with put_back
all_rounds_done = refl

-- a halted target is not taken again
halted_is_passed : turn_after 2 (puts 0 0 ∷ halts 0 0 ∷ takes 0 0 ∷ []) ≡ Some 1
unfolding turn_of fresh taken_by halted_with put_back
halted_is_passed = refl

-- ---- what readers see

nothing_seen : moments_seen [] ≡ None ∷ None ∷ []
unfolding fresh latest_shown
nothing_seen = refl

-- a target that is out is seen as before it was taken
not_yet_seen : moments_seen (visits 1 1 20 ∷ visits 0 0 10 ∷ takes 1 1 ∷ takes 0 0 ∷ []) ≡ None ∷ None ∷ []
unfolding fresh taken_by visited_with latest_shown
not_yet_seen = refl

seen_when_put : moments_seen (puts 1 1 ∷ visits 1 1 20 ∷ visits 0 0 10 ∷ takes 1 1 ∷ takes 0 0 ∷ []) ≡ None ∷ Some 20 ∷ []
unfolding fresh taken_by visited_with put_back latest_shown scrape_after
seen_when_put = refl

-- a target that halts in its second visit is seen as after its first
halted_is_seen_as_before : moments_seen (puts 0 0 ∷ halts 0 0 ∷ takes 0 0 ∷ in_turn) ≡ Some 10 ∷ Some 20 ∷ []
unfolding fresh taken_by visited_with halted_with put_back latest_shown scrape_after
halted_is_seen_as_before = refl

-- and its one further talk is on its wire
halted_talks : map (λ (o : OneTarget). map (λ (t : Talk). t.at) o.scrapes) (state_after (two 2) (puts 0 0 ∷ halts 0 0 ∷ takes 0 0 ∷ in_turn)) ≡ (9 ∷ 10 ∷ []) ∷ (20 ∷ []) ∷ []
unfolding fresh taken_by visited_with halted_with put_back
halted_talks = refl

-- ---- what a run may do, and what not

-- the lane and the visits of a target that is out
abbrev lane_of : Option Out → ℕ
lane_of None = 9
lane_of (Some out) = out.lane

abbrev from_of : Option Out → ℕ
from_of None = 9
from_of (Some out) = out.from

differ : (m n : ℕ) → m < n → m ≡ n → ⊥
differ m n below same = omega arith

-- a target that was neither visited nor halted may not be put back
no_idle_put : MayPut 0 (taken_by 0 (fresh (target (codes "a")))) → ⊥
unfolding taken_by fresh
no_idle_put may = idle may.due
  where
    idle : (false ≡ true) ⊎ (0 ≡ may.from + 1) → ⊥
    idle (inl e) = cc
    idle (inr e) = omega arith

-- another lane may not put it back
no_foreign_put : (talk : Talk) (e : Event) (tried : List Talk) (p : Posted) → MayPut 1 (visited_with talk e tried p (taken_by 0 (fresh (target (codes "a"))))) → ⊥
unfolding taken_by fresh visited_with
no_foreign_put talk e tried p may = differ 0 1 (omega arith) (ap lane_of may.out)

-- a target is visited once since it was taken
no_second_visit : (talk : Talk) (e : Event) (tried : List Talk) (p : Posted) → MayVisit simple 0 (talk_at 11) (event_at 11) [] (posted.Accepted 200) (visited_with talk e tried p (taken_by 0 (fresh (target (codes "a"))))) → ⊥
unfolding taken_by fresh visited_with
no_second_visit talk e tried p may = differ 0 1 (omega arith) (ap from_of may.out)

-- one step of a run: both lanes' visits are whole talks of the target's request, whose body was tried once
a_visit : MayVisit simple 0 (talk_at 10) (event_at 10) (talk_at 0 ∷ []) (posted.Accepted 200) (taken_by 0 (fresh (target (codes "a"))))
unfolding taken_by fresh
a_visit = record {
  out = refl;
  working = refl;
  event = record { whole = refl; read_at = refl; outcome = refl };
  posts = record { last = tries.Status 200; run = (refl, refl); posted_is = refl };
}

-- ---- verdicts of bodies

accepted : posted_of (tries.Status 204) ≡ posted.Accepted 204
accepted = refl

refused : posted_of (tries.Status 400) ≡ posted.Refused 400
refused = refl

asked_again : posted_of (tries.Status 503) ≡ posted.GivenUp (tries.Status 503)
asked_again = refl

without_head : posted_of tries.NoHead ≡ posted.GivenUp tries.NoHead
without_head = refl

below_200 : posted_of (tries.Status 100) ≡ posted.Refused 100
below_200 = refl

too_many_requests : is_open (tries.Status 429) ≡ true
too_many_requests = refl

server_error : is_open (tries.Status 500) ≡ false
server_error = refl
