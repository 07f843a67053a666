-- In every run what a target has posted is the texts of the events that its own talks tell.
use Rattle.std.proofs.Common.{◌≡◌, ℕ, ◌≤◌, ◌<◌, Bool, true, false, cond, not, ◌&&◌, List, [], ◌∷◌, ◌++◌, length, Option, Some, None, option_map, is_none, refl, sym, ap, subst, ◌∙◌, arith}
use Rattle.std.specs.Prelude.{◌==◌, nat_lt, ⊤}
use Rattle.std.specs.List.{slice_get}
use Rattle.std.proofs.lemmas.Bool.Decides.{nat_tests}
use Rattle.std.proofs.lemmas.List.{nil_from_length}
use Rattle.std.proofs.lemmas.Option.{slice_get-map}
use Rattle.std.proofs.lemmas.Bool.{and_parts}
use Rattle.target_core.specs.Events.{latest_shown}
use Rattle.bridge_ports.specs.declared.talk.Talk.{Talk}
use Rattle.series_table.specs.Talking.{Talking, Followed}
use Rattle.target_table.specs.Runs.{Run}
use Rattle.page_model.specs.declared.event.Event.{Event}
use Rattle.otlp_sender.specs.declared.posted.Posted.{Posted}
use Rattle.series_table.specs.Emission.{IsHistoryOf}
use Rattle.series_table.specs.Records.{BodiesOf, further_talks}
use Rattle.target_table.specs.Machine.{Out, OneTarget, Deed, TableStep, taking, visiting, halting, putting, deed_at, paging, fresh, may_go, visits_of, May, MayVisit, MayHalt, MayPut, Allowed, taken_by, visited_with, halted_with, put_back, was_visited, done, changed_at, step_from, state_after, TableRun}
use Rattle.target_table.specs.Laws.{BodiesInEveryRun}
use Rattle.target_table.proofs.Places.{get_same, get_other, equal_numbers, unequal_numbers, below}

-- ---- what is kept of one target

-- the page that readers see is the latest where the target is home, and until it is visited
OutFacts : ℕ → OneTarget → Option Out → Type 0
OutFacts rounds o None = o.seen ≡ latest_shown o.followed.target o.events
OutFacts rounds o (Some out) = (out.from < rounds) × (out.from ≤ visits_of o) × (visits_of o ≡ out.from → o.seen ≡ latest_shown o.followed.target o.events)

record Fine (w : Talking) (rounds : ℕ) (f : Followed) (o : OneTarget) : Type 0 where
  followed : o.followed ≡ f
  bodies : BodiesOf w o.followed (further_talks o.halted) o.scrapes o.posts o.events o.posted
  few : visits_of o ≤ rounds
  out_facts : OutFacts rounds o o.out

fresh_fine : (w : Talking) (rounds : ℕ) (f : Followed) → Fine w rounds f (fresh f)
unfolding fresh OutFacts
fresh_fine w rounds f = record {
  followed = refl;
  bodies = record { tells = record { counted = []; further = []; talks_are = refl; few = omega arith; history = tt }; in_order = (refl, refl) };
  few = omega arith;
  out_facts = refl;
}

no_out : (o : Option Out) → is_none o ≡ true → o ≡ None
no_out None e = refl
no_out (Some x) e = absurd cc

not_below : (a b : ℕ) → nat_lt a b ≡ false → b ≤ a
not_below a b e = grind (arith, nat_tests)

take_fine : (w : Talking) (rounds : ℕ) (f : Followed) (o : OneTarget) (lane : ℕ) → may_go rounds o ≡ true → Fine w rounds f o → Fine w rounds f (taken_by lane o)
unfolding taken_by OutFacts
take_fine w rounds f o lane may h =
    let first = and_parts (is_none o.out && not o.halted) (nat_lt (visits_of o) rounds) may in
    let home : o.out ≡ None = no_out o.out (and_parts (is_none o.out) (not o.halted) first.0).0 in
    let left : visits_of o < rounds = below (visits_of o) rounds first.1 in
    let seen : OutFacts rounds o None = subst (OutFacts rounds o) home h.out_facts in
    record { followed = h.followed; bodies = h.bodies; few = h.few; out_facts = (left, omega arith, λ e. seen) }

nothing_further : (w : Talking) (o : OneTarget) → o.halted ≡ false → (b : BodiesOf w o.followed (further_talks o.halted) o.scrapes o.posts o.events o.posted) → b.tells.counted ≡ o.scrapes
nothing_further w o working b =
    let none : b.tells.further ≡ [] = nil_from_length b.tells.further (omega (arith, subst (λ h. length b.tells.further ≤ further_talks h) working b.tells.few)) in
    ap (λ xs. xs ++ b.tells.counted) (sym none) ∙ sym b.tells.talks_are

visit_fine : (w : Talking) (rounds : ℕ) (f : Followed) (o : OneTarget) (lane : ℕ) (talk : Talk) (e : Event) (tried : List Talk) (p : Posted) → MayVisit w lane talk e tried p o → Fine w rounds f o → Fine w rounds f (visited_with talk e tried p o)
unfolding visited_with OutFacts
visit_fine w rounds f o lane talk e tried p may h =
    let out : OutFacts rounds o (Some (record { lane = lane; from = visits_of o })) = subst (OutFacts rounds o) may.out h.out_facts in
    let counted : IsHistoryOf w o.followed o.scrapes o.events = subst (λ ts. IsHistoryOf w o.followed ts o.events) (nothing_further w o may.working h.bodies) h.bodies.tells.history in
    record {
      followed = h.followed;
      bodies = record {
        tells = record {
          counted = talk ∷ o.scrapes;
          further = [];
          talks_are = refl;
          few = omega arith;
          history = (may.event, counted);
        };
        in_order = (tried, o.posts, refl, may.posts, h.bodies.in_order);
      };
      few = (let left = out.0 in omega arith);
      out_facts = subst (OutFacts rounds (visited_with talk e tried p o)) (sym may.out) (out.0, omega arith, λ same. absurd (omega arith));
    }

halt_fine : (w : Talking) (rounds : ℕ) (f : Followed) (o : OneTarget) (lane : ℕ) (talks : List Talk) → MayHalt lane talks o → Fine w rounds f o → Fine w rounds f (halted_with talks o)
unfolding halted_with OutFacts
halt_fine w rounds f o lane talks may h =
    record {
      followed = h.followed;
      bodies = record {
        tells = record {
          counted = o.scrapes;
          further = talks;
          talks_are = refl;
          few = may.few;
          history = subst (λ ts. IsHistoryOf w o.followed ts o.events) (nothing_further w o may.working h.bodies) h.bodies.tells.history;
        };
        in_order = h.bodies.in_order;
      };
      few = h.few;
      out_facts = same_facts o.out h.out_facts;
    }
  where
    same_facts : (x : Option Out) → OutFacts rounds o x → OutFacts rounds (halted_with talks o) x
    same_facts None g = g
    same_facts (Some out) g = g

put_fine : (w : Talking) (rounds : ℕ) (f : Followed) (o : OneTarget) (lane : ℕ) → MayPut lane o → Fine w rounds f o → Fine w rounds f (put_back o)
unfolding put_back OutFacts
put_fine w rounds f o lane may h =
    record { followed = h.followed; bodies = h.bodies; few = h.few; out_facts = seen (nat_lt may.from (visits_of o)) refl }
  where
    out : OutFacts rounds o (Some (record { lane = lane; from = may.from }))
    out = subst (OutFacts rounds o) may.out h.out_facts

    seen : (b : Bool) → nat_lt may.from (visits_of o) ≡ b → cond (was_visited o) (latest_shown o.followed.target o.events) o.seen ≡ latest_shown o.followed.target o.events
    seen true e = rw (may.out, e) refl
    seen false e = rw (may.out, e) (out.2 (let l = out.1 in let g = not_below may.from (visits_of o) e in omega arith))

deed_fine : (w : Talking) (rounds : ℕ) (f : Followed) (o : OneTarget) (deed : Deed) → May w rounds deed o → Fine w rounds f o → Fine w rounds f (done deed o)
deed_fine w rounds f o (taking lane) may h = take_fine w rounds f o lane may h
deed_fine w rounds f o (visiting lane talk e tried p) may h = visit_fine w rounds f o lane talk e tried p may h
deed_fine w rounds f o (halting lane talks) may h = halt_fine w rounds f o lane talks may h
deed_fine w rounds f o (putting lane) may h = put_fine w rounds f o lane may h

-- ---- runs

-- what is kept of the target at a place
FineAt : Talking → ℕ → Followed → Option OneTarget → Type 0
FineAt w rounds f None = ⊤
FineAt w rounds f (Some o) = Fine w rounds f o

open_fine : {w : Talking} {rounds : ℕ} {f : Followed} {o : OneTarget} → FineAt w rounds f (Some o) → Fine w rounds f o
unfolding FineAt
open_fine h = h

close_fine : {w : Talking} {rounds : ℕ} {f : Followed} {o : OneTarget} → Fine w rounds f o → FineAt w rounds f (Some o)
unfolding FineAt
close_fine h = h

step_fine : (w : Talking) (rounds : ℕ) (f : Followed) (state : List OneTarget) (step : TableStep) (place : ℕ) → Allowed w rounds state step → FineAt w rounds f (slice_get state place) → FineAt w rounds f (slice_get (step_from state step) place)
step_fine w rounds f state paging place allowed h = h
step_fine w rounds f state (deed_at at deed) place allowed h = go (at == place) refl
  where
    go : (b : Bool) → (at == place) ≡ b → FineAt w rounds f (slice_get (changed_at (done deed) state at) place)
    go false apart = subst (FineAt w rounds f) (sym (get_other (done deed) state place at (unequal_numbers at place apart))) h
    go true same =
        let here : slice_get state place ≡ Some allowed.target = ap (slice_get state) (sym (equal_numbers at place same)) ∙ allowed.there in
        let fine : Fine w rounds f allowed.target = open_fine (subst (FineAt w rounds f) here h) in
        let new : slice_get (changed_at (done deed) state at) place ≡ Some (done deed allowed.target) = subst (λ i. slice_get (changed_at (done deed) state i) place ≡ Some (done deed allowed.target)) (sym (equal_numbers at place same)) (get_same (done deed) state place allowed.target here) in
        subst (FineAt w rounds f) (sym new) (close_fine (deed_fine w rounds f allowed.target deed allowed.may fine))

run_fine : (w : Talking) (run : Run) (steps : List TableStep) (place : ℕ) (f : Followed) → TableRun w run steps → slice_get run.targets place ≡ Some f → FineAt w run.rounds f (slice_get (state_after run steps) place)
unfolding FineAt
run_fine w run [] place f steps there = subst (FineAt w run.rounds f) (sym (slice_get-map fresh run.targets place ∙ ap (option_map fresh) there)) (fresh_fine w run.rounds f)
run_fine w run (step ∷ earlier) place f steps there = step_fine w run.rounds f (state_after run earlier) step place steps.0 (run_fine w run earlier place f steps.1 there)

pub bodies_in_every_run : (w : Talking) → BodiesInEveryRun w
unfolding FineAt OutFacts
bodies_in_every_run w run steps place f o ran target there =
    let h : Fine w run.rounds f o = subst (FineAt w run.rounds f) there (run_fine w run steps place f ran target) in
    record {
      followed = h.followed;
      bodies = subst (λ g. BodiesOf w g (further_talks o.halted) o.scrapes o.posts o.events o.posted) h.followed h.bodies;
      few = h.few;
      seen = λ home. (let s : OutFacts run.rounds o None = subst (OutFacts run.rounds o) home h.out_facts in subst (λ g. o.seen ≡ latest_shown g.target o.events) h.followed s);
    }
