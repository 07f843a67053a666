-- What a page shows of a target.
use Rattle.std.proofs.Common.{◌≡◌, ℕ, zero, suc, false, List, [], ◌∷◌, ◌++◌, Option, option_map, refl, sym, ap, ◌∙◌}
use Rattle.std.specs.List.{slice_get}
use Rattle.std.proofs.lemmas.Option.{slice_get-map}
use Rattle.page_model.specs.declared.event.Event.{Event}
use Rattle.page_model.specs.declared.event.Shown.{Shown}
use Rattle.bridge_ports.specs.declared.talk.Talk.{Talk}
use Rattle.otlp_sender.specs.declared.posted.Posted.{Posted}
use Rattle.series_table.specs.Talking.{Talking}
use Rattle.series_table.specs.Records.{Kept}
use Rattle.target_table.specs.Machine.{OneTarget, TableStep, taking, visiting, halting, putting, deed_at, paging, taken_by, visited_with, halted_with, done, changed_at, step_from, state_after, pages_seen}
use Rattle.federation_page.specs.Gathering.{federated_page}
use Rattle.target_table.specs.Paging.{is_put_of}
use Rattle.target_table.specs.Mirrors.{Mirrors, PageIsAStep}
use Rattle.target_table.specs.Laws.{HasOwnRun, PagesAreOwn, SeenUntilPut}
use Rattle.target_table.proofs.Places.{get_other, unequal_numbers}
use Rattle.target_table.proofs.Isolated.{isolation}

mirrored_pages : (slots : List (Option Kept)) (seen : List Shown) (state : List OneTarget) → Mirrors slots seen state → seen ≡ pages_seen state
mirrored_pages [] [] [] h = refl
mirrored_pages (slot ∷ slots) (s ∷ seen) (o ∷ state) h = λ i. h.1 i ∷ mirrored_pages slots seen state h.2 i
mirrored_pages [] (s ∷ seen) state h = absurd h
mirrored_pages [] [] (o ∷ state) h = absurd h
mirrored_pages (slot ∷ slots) [] state h = absurd h
mirrored_pages (slot ∷ slots) (s ∷ seen) [] h = absurd h

pub page_is_a_step : (w : Talking) → PageIsAStep w
page_is_a_step w rounds h state mirrors = (tt, mirrors, ap federated_page (mirrored_pages h.slots h.seen state mirrors))

-- ---- what a page shows depends on the target's own steps

pub pages_are_own : (w : Talking) → PagesAreOwn w
pages_are_own w run steps place f ran there =
    let own : HasOwnRun w run steps place f = isolation w run steps place f ran there in
    slice_get-map (λ (o : OneTarget). o.seen) (state_after run steps) place ∙ ap (option_map (λ (o : OneTarget). o.seen)) own.there
    ∙ sym (ap (λ (state : List OneTarget). slice_get (pages_seen state) 0) own.own_state)

-- ---- and changes only where the target is put back

seen_kept : (g : OneTarget → OneTarget) → ((o : OneTarget) → (g o).seen ≡ o.seen) → (state : List OneTarget) (at : ℕ) → pages_seen (changed_at g state at) ≡ pages_seen state
seen_kept g same [] at = refl
seen_kept g same (o ∷ state) zero = ap (λ (s : Shown). s ∷ pages_seen state) (same o)
seen_kept g same (o ∷ state) (suc at) = ap (λ (seen : List Shown). o.seen ∷ seen) (seen_kept g same state at)

taken_seen : (lane : ℕ) (o : OneTarget) → (done (taking lane) o).seen ≡ o.seen
unfolding taken_by
taken_seen lane o = refl

visited_seen : (lane : ℕ) (talk : Talk) (e : Event) (tried : List Talk) (p : Posted) (o : OneTarget) → (done (visiting lane talk e tried p) o).seen ≡ o.seen
unfolding visited_with
visited_seen lane talk e tried p o = refl

halted_seen : (lane : ℕ) (talks : List Talk) (o : OneTarget) → (done (halting lane talks) o).seen ≡ o.seen
unfolding halted_with
halted_seen lane talks o = refl

step_keeps : (state : List OneTarget) (step : TableStep) (place : ℕ) → is_put_of place step ≡ false → slice_get (pages_seen (step_from state step)) place ≡ slice_get (pages_seen state) place
step_keeps state paging place none = refl
step_keeps state (deed_at at (taking lane)) place none = ap (λ (seen : List Shown). slice_get seen place) (seen_kept (done (taking lane)) (taken_seen lane) state at)
step_keeps state (deed_at at (visiting lane talk e tried p)) place none = ap (λ (seen : List Shown). slice_get seen place) (seen_kept (done (visiting lane talk e tried p)) (visited_seen lane talk e tried p) state at)
step_keeps state (deed_at at (halting lane talks)) place none = ap (λ (seen : List Shown). slice_get seen place) (seen_kept (done (halting lane talks)) (halted_seen lane talks) state at)
step_keeps state (deed_at at (putting lane)) place none =
    slice_get-map (λ (o : OneTarget). o.seen) (changed_at (done (putting lane)) state at) place
    ∙ ap (option_map (λ (o : OneTarget). o.seen)) (get_other (done (putting lane)) state place at (unequal_numbers at place none))
    ∙ sym (slice_get-map (λ (o : OneTarget). o.seen) state place)

pub seen_until_put : SeenUntilPut
seen_until_put run [] earlier place none = refl
seen_until_put run (step ∷ later) earlier place none = step_keeps (state_after run (later ++ earlier)) step place none.0 ∙ seen_until_put run later earlier place none.1
