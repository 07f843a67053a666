-- Each target's steps are a run of its own.
use Rattle.std.proofs.Common.{◌≡◌, ℕ, Bool, true, false, List, [], ◌∷◌, Some, option_map, refl, sym, ap, subst, ◌∙◌}
use Rattle.std.specs.List.{slice_get}
use Rattle.std.specs.Prelude.{◌==◌}
use Rattle.std.proofs.lemmas.Option.{same_Some, slice_get-map}
use Rattle.series_table.specs.Talking.{Talking, Followed}
use Rattle.target_table.specs.Runs.{Run}
use Rattle.target_table.specs.Machine.{OneTarget, Deed, TableStep, taking, visiting, halting, putting, deed_at, paging, fresh, may_go, visits_of, May, InTurn, MayBeDone, Allowed, done, changed_at, step_from, state_after, TableRun, own_steps, alone}
use Rattle.target_table.specs.Laws.{HasOwnRun, Isolation, SameOwnSteps}
use Rattle.target_table.proofs.Places.{get_same, get_other, equal_numbers, unequal_numbers, turn_alone}

-- in a table of one it is always its turn
own_turn : (w : Talking) (rounds : ℕ) (o : OneTarget) (deed : Deed) → May w rounds deed o → InTurn rounds (o ∷ []) 0 deed
own_turn w rounds o (taking lane) may = turn_alone visits_of (may_go rounds) o may
own_turn w rounds o (visiting lane talk e tried p) may = tt
own_turn w rounds o (halting lane talks) may = tt
own_turn w rounds o (putting lane) may = tt

own_done : (w : Talking) (rounds : ℕ) (o : OneTarget) (deed : Deed) (state : List OneTarget) → state ≡ o ∷ [] → May w rounds deed o → MayBeDone w rounds state 0 deed
own_done w rounds o deed state is may = subst (λ s. MayBeDone w rounds s 0 deed) (sym is) (record { target = o; there = refl; may = may; turn = own_turn w rounds o deed may })

-- one step more
further : (w : Talking) (run : Run) (earlier : List TableStep) (place : ℕ) (f : Followed) (step : TableStep) → Allowed w run.rounds (state_after run earlier) step → HasOwnRun w run earlier place f → HasOwnRun w run (step ∷ earlier) place f
further w run earlier place f paging allowed h = record { target = h.target; there = h.there; own_run = h.own_run; own_state = h.own_state }
further w run earlier place f (deed_at at deed) allowed h = go (at == place) refl
  where
    go : (b : Bool) → (at == place) ≡ b → HasOwnRun w run (deed_at at deed ∷ earlier) place f
    go false apart = record {
      target = h.target;
      there = get_other (done deed) (state_after run earlier) place at (unequal_numbers at place apart) ∙ h.there;
      own_run = subst (λ s. TableRun w (alone f run.rounds) s) (sym skipped) h.own_run;
      own_state = subst (λ s. state_after (alone f run.rounds) s ≡ h.target ∷ []) (sym skipped) h.own_state;
    }
      where
        skipped : own_steps place (deed_at at deed ∷ earlier) ≡ own_steps place earlier
        skipped = rw apart refl
    go true same = record {
      target = done deed h.target;
      there = subst (λ i. slice_get (changed_at (done deed) (state_after run earlier) i) place ≡ Some (done deed h.target)) (sym (equal_numbers at place same)) (get_same (done deed) (state_after run earlier) place h.target h.there);
      own_run = subst (λ s. TableRun w (alone f run.rounds) s) (sym one_more) (own_done w run.rounds h.target deed (state_after (alone f run.rounds) (own_steps place earlier)) h.own_state may, h.own_run);
      own_state = subst (λ s. state_after (alone f run.rounds) s ≡ done deed h.target ∷ []) (sym one_more) (ap (λ s. changed_at (done deed) s 0) h.own_state);
    }
      where
        one_more : own_steps place (deed_at at deed ∷ earlier) ≡ deed_at 0 deed ∷ own_steps place earlier
        one_more = rw same refl

        it : allowed.target ≡ h.target
        it = same_Some allowed.target h.target (sym allowed.there ∙ ap (slice_get (state_after run earlier)) (equal_numbers at place same) ∙ h.there)

        may : May w run.rounds deed h.target
        may = subst (May w run.rounds deed) it allowed.may

pub isolation : (w : Talking) → Isolation w
isolation w run [] place f steps there = record { target = fresh f; there = slice_get-map fresh run.targets place ∙ ap (option_map fresh) there; own_run = tt; own_state = refl }
isolation w run (step ∷ earlier) place f steps there = further w run earlier place f step steps.0 (isolation w run earlier place f steps.1 there)

-- a state does not depend on the rounds
same_state : (f : Followed) (n m : ℕ) (steps : List TableStep) → state_after (alone f n) steps ≡ state_after (alone f m) steps
same_state f n m [] = refl
same_state f n m (step ∷ earlier) = ap (λ s. step_from s step) (same_state f n m earlier)

first_of : (a b : OneTarget) → a ∷ [] ≡ b ∷ [] → a ≡ b
first_of a b e = same_Some a b (ap (λ xs. slice_get xs 0) e)

pub same_own_steps : (w : Talking) → SameOwnSteps w
same_own_steps w run other steps others place at f ran other_ran there other_there same =
    let h = isolation w run steps place f ran there in
    let k = isolation w other others at f other_ran other_there in
    let e : h.target ≡ k.target = first_of h.target k.target (sym h.own_state ∙ ap (state_after (alone f run.rounds)) same ∙ same_state f run.rounds other.rounds (own_steps at others) ∙ k.own_state) in
    h.there ∙ ap Some e ∙ sym k.there
