-- A take and a put of the table are steps of the machine.
use Rattle.std.proofs.Common.{◌≡◌, ◌≢◌, ℕ, zero, suc, ◌+◌, ◌≤◌, ◌<◌, ◌⊎◌, inl, inr, Bool, true, false, cond, ◌&&◌, ◌==◌, List, [], ◌∷◌, map, filter, Option, Some, None, option_and_then, refl, sym, ap, subst, ◌∙◌, arith}
use Rattle.std.specs.Prelude.{⊤, nat_lt}
use Rattle.std.specs.List.{slice_get}
use Rattle.std.proofs.lemmas.Bool.Decides.{nat_tests}
use Rattle.std.proofs.lemmas.Option.{none-some, same_Some}
use Rattle.page_model.specs.declared.event.Shown.{Shown}
use Rattle.series_table.specs.Talking.{Talking}
use Rattle.series_table.specs.Records.{Kept}
use Rattle.target_table.specs.Machine.{OneTarget, visits_of, may_go, place_where, smallest, turn_of, changed_at, taken_by, put_back, MayPut}
use Rattle.target_table.specs.Tables.{Leased, visits_in, may_leave, next_place, MayBePut, seen_after}
use Rattle.series_table.specs.Moving.{without_second}
use Rattle.target_table.specs.Mirrors.{TrackMirrors, SlotMirrors, Mirrors, TakeIsAStep, PutIsAStep}
use Rattle.target_table.proofs.Tabled.{turn-passes, changed_to_same, same_or_not}

-- ---- whose turn it is

-- slots and targets of which the same may go, with as many visits
Alike : ℕ → List (Option Kept) → List OneTarget → Type 0
Alike rounds [] [] = ⊤
Alike rounds (slot ∷ slots) (o ∷ state) = (may_leave rounds slot ≡ may_go rounds o) × (may_go rounds o ≡ true → visits_in slot ≡ visits_of o) × Alike rounds slots state
Alike rounds _ _ = ⊥

slot-alike : (rounds : ℕ) (slot : Option Kept) (o : OneTarget) → SlotMirrors slot o → (may_leave rounds slot ≡ may_go rounds o) × (may_go rounds o ≡ true → visits_in slot ≡ visits_of o)
slot-alike rounds None o h = (rw h refl, λ e. absurd (let x : false ≡ true = rw h at e in cc))
slot-alike rounds (Some k) o h = (rw (h.0, h.1.halted, h.1.visits) refl, λ e. h.1.visits)

alike : (rounds : ℕ) (slots : List (Option Kept)) (seen : List Shown) (state : List OneTarget) → Mirrors slots seen state → Alike rounds slots state
unfolding Alike
alike rounds [] [] [] h = tt
alike rounds (slot ∷ slots) (s ∷ seen) (o ∷ state) h = let a = slot-alike rounds slot o h.0 in (a.0, a.1, alike rounds slots seen state h.2)
alike rounds [] (s ∷ seen) state h = absurd h
alike rounds [] [] (o ∷ state) h = absurd h
alike rounds (slot ∷ slots) [] state h = absurd h
alike rounds (slot ∷ slots) (s ∷ seen) [] h = absurd h

same-visits : (rounds : ℕ) (slots : List (Option Kept)) (state : List OneTarget) → Alike rounds slots state → map visits_in (filter (may_leave rounds) slots) ≡ map visits_of (filter (may_go rounds) state)
unfolding Alike
same-visits rounds [] [] h = refl
same-visits rounds (slot ∷ slots) (o ∷ state) h = go (may_go rounds o) refl (same-visits rounds slots state h.2)
  where
    go : (b : Bool) → may_go rounds o ≡ b → map visits_in (filter (may_leave rounds) slots) ≡ map visits_of (filter (may_go rounds) state) → map visits_in (filter (may_leave rounds) (slot ∷ slots)) ≡ map visits_of (filter (may_go rounds) (o ∷ state))
    go true e rest = rw (h.0, e) (ap (λ n. n ∷ map visits_in (filter (may_leave rounds) slots)) (h.1 e) ∙ ap (λ ns. visits_of o ∷ ns) rest)
    go false e rest = rw (h.0, e) rest
same-visits rounds [] (o ∷ state) h = absurd h
same-visits rounds (slot ∷ slots) [] h = absurd h

same-test : (a b : Bool) (x y n : ℕ) → a ≡ b → (b ≡ true → x ≡ y) → (a && x == n) ≡ (b && y == n)
same-test true true x y n e f = ap (λ z. z == n) (f refl)
same-test false false x y n e f = refl
same-test true false x y n e f = absurd cc
same-test false true x y n e f = absurd cc

same-place : (rounds n : ℕ) (slots : List (Option Kept)) (state : List OneTarget) → Alike rounds slots state → place_where (λ x. may_leave rounds x && visits_in x == n) slots ≡ place_where (λ x. may_go rounds x && visits_of x == n) state
unfolding Alike
same-place rounds n [] [] h = refl
same-place rounds n (slot ∷ slots) (o ∷ state) h =
    (λ i. cond (same-test (may_leave rounds slot) (may_go rounds o) (visits_in slot) (visits_of o) n h.0 h.1 i) (Some 0) (option_and_then (λ m. Some (m + 1)) (same-place rounds n slots state h.2 i)))
same-place rounds n [] (o ∷ state) h = absurd h
same-place rounds n (slot ∷ slots) [] h = absurd h

same-turn : (rounds : ℕ) (slots : List (Option Kept)) (seen : List Shown) (state : List OneTarget) → Mirrors slots seen state → next_place rounds slots ≡ turn_of visits_of (may_go rounds) state
unfolding turn_of
same-turn rounds slots seen state h =
    let a = alike rounds slots seen state h in
    (λ i. option_and_then (λ n. same-place rounds n slots state a i) (smallest (same-visits rounds slots state a i)))

-- ---- one place changes

mirrors-changed : (at : ℕ) (slots : List (Option Kept)) (seen : List Shown) (state : List OneTarget) (g : Option Kept → Option Kept) (h : Shown → Shown) (d : OneTarget → OneTarget)
    → ((slot : Option Kept) (s : Shown) (o : OneTarget) → slice_get slots at ≡ Some slot → slice_get state at ≡ Some o → SlotMirrors slot o → s ≡ o.seen → SlotMirrors (g slot) (d o) × (h s ≡ (d o).seen))
    → Mirrors slots seen state → Mirrors (changed_at g slots at) (changed_at h seen at) (changed_at d state at)
mirrors-changed at [] [] [] g h d new all = tt
mirrors-changed zero (slot ∷ slots) (s ∷ seen) (o ∷ state) g h d new all = let n = new slot s o refl refl all.0 all.1 in (n.0, n.1, all.2)
mirrors-changed (suc at) (slot ∷ slots) (s ∷ seen) (o ∷ state) g h d new all = (all.0, all.1, mirrors-changed at slots seen state g h d new all.2)
mirrors-changed at [] (s ∷ seen) state g h d new all = absurd all
mirrors-changed at [] [] (o ∷ state) g h d new all = absurd all
mirrors-changed at (slot ∷ slots) [] state g h d new all = absurd all
mirrors-changed at (slot ∷ slots) (s ∷ seen) [] g h d new all = absurd all

-- the target at the place of a slot
target-at : (at : ℕ) (slots : List (Option Kept)) (seen : List Shown) (state : List OneTarget) (slot : Option Kept) → slice_get slots at ≡ Some slot → Mirrors slots seen state → (o : OneTarget) × (slice_get state at ≡ Some o) × SlotMirrors slot o
target-at at [] [] [] slot e all = absurd (none-some slot e)
target-at zero (x ∷ slots) (s ∷ seen) (o ∷ state) slot e all = (o, refl, subst (λ y. SlotMirrors y o) (same_Some x slot e) all.0)
target-at (suc at) (x ∷ slots) (s ∷ seen) (o ∷ state) slot e all = target-at at slots seen state slot e all.2
target-at at [] (s ∷ seen) state slot e all = absurd all
target-at at [] [] (o ∷ state) slot e all = absurd all
target-at at (x ∷ slots) [] state slot e all = absurd all
target-at at (x ∷ slots) (s ∷ seen) [] slot e all = absurd all

-- the lists of a table, changed
mirrors-of : (slots slots' : List (Option Kept)) (seen seen' : List Shown) (state : List OneTarget) → slots' ≡ slots → seen' ≡ seen → Mirrors slots seen state → Mirrors slots' seen' state
mirrors-of slots slots' seen seen' state a b h = subst (λ x. Mirrors x seen' state) (sym a) (subst (λ y. Mirrors slots y state) (sym b) h)

pub take_is_a_step : (w : Talking) → TakeIsAStep w
unfolding taken_by
take_is_a_step w run lane before after l state table m t =
    let target = target-at t.place before.slots before.seen state (Some l.track) t.was m in
    let turn : turn_of visits_of (may_go run.rounds) state ≡ Some t.place = sym (same-turn run.rounds before.slots before.seen state m) ∙ t.turn in (
      record { target = target.0; there = target.1; may = turn-passes visits_of (may_go run.rounds) state t.place target.0 turn target.1; turn = turn },
      mirrors-of (changed_at (λ _. None) before.slots t.place) after.slots (changed_at (λ s. s) before.seen t.place) after.seen (changed_at (taken_by lane) state t.place) t.slots (t.seen ∙ sym (changed_to_same before.seen t.place))
          (mirrors-changed t.place before.slots before.seen state (λ _. None) (λ s. s) (taken_by lane) (λ slot s o x y z e. (refl, e)) m),
    )

-- ---- a put

lower : (a b : ℕ) → a < b → nat_lt a b ≡ true
lower a b h = grind (arith, nat_tests)

not_lower : (a b : ℕ) → b ≤ a → nat_lt a b ≡ false
not_lower a b h = grind (arith, nat_tests)

put-due : (lane : ℕ) (l : Leased) (o : OneTarget) → o.out ≡ Some (record { lane = lane; from = l.from }) → TrackMirrors l.track o → MayBePut l → (l.track.counts.visits ≡ l.from) ⊎ (l.track.counts.visits ≢ l.from) → MayPut lane o
put-due lane l o out m due (inl e) = record { from = l.from; out = out; due = inl (sym m.halted ∙ (due.halted e).0) }
put-due lane l o out m due (inr e) = record { from = l.from; out = out; due = inr (sym m.visits ∙ (due.visited e).0) }

put-track : (k : Kept) (o : OneTarget) → TrackMirrors k o → TrackMirrors (without_second k) (put_back o)
unfolding put_back
put-track k o m = record { followed = m.followed; scrapes = m.scrapes; posts = m.posts; halted = m.halted; visits = m.visits; shown = m.shown }

put-seen : (lane : ℕ) (l : Leased) (o : OneTarget) (s : Shown) → o.out ≡ Some (record { lane = lane; from = l.from }) → TrackMirrors l.track o → MayBePut l → s ≡ o.seen
    → (l.track.counts.visits ≡ l.from) ⊎ (l.track.counts.visits ≢ l.from) → seen_after l.track s ≡ (put_back o).seen
unfolding put_back
put-seen lane l o s out m due e (inl same) =
    let late : nat_lt l.from (visits_of o) ≡ false = not_lower l.from (visits_of o) (let v = m.visits in omega arith) in
    rw ((due.halted same).1, out, late) e
put-seen lane l o s out m due e (inr more) =
    let late : nat_lt l.from (visits_of o) ≡ true = lower l.from (visits_of o) (let v = m.visits in let u = (due.visited more).0 in omega arith) in
    rw ((due.visited more).1, out, late) m.shown

at_home : (r : OneTarget) → (put_back r).out ≡ None
unfolding put_back
at_home r = refl

pub put_is_a_step : (w : Talking) → PutIsAStep w
put_is_a_step w run lane place before after l state o table m there number out track due p =
    let split = same_or_not l.track.counts.visits l.from in
    let here : p.place ≡ place = (let a = p.number in omega arith) in (
      put-due lane l o out track due split,
      mirrors-of (changed_at (λ _. Some (without_second l.track)) before.slots place) after.slots (changed_at (seen_after l.track) before.seen place) after.seen (changed_at put_back state place)
          (p.slots ∙ ap (changed_at (λ _. Some (without_second l.track)) before.slots) here) (p.seen ∙ ap (changed_at (seen_after l.track) before.seen) here)
          (mirrors-changed place before.slots before.seen state (λ _. Some (without_second l.track)) (seen_after l.track) put_back
          (λ slot s q x y z e. (let same : o ≡ q = same_Some o q (sym there ∙ y) in
          subst (λ r. SlotMirrors (Some (without_second l.track)) (put_back r) × (seen_after l.track s ≡ (put_back r).seen)) same
          ((at_home o, put-track l.track o track), put-seen lane l o s out track due (e ∙ ap (λ (r : OneTarget). r.seen) (sym same)) split))) m),
    )
