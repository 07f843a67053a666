-- A take and a put keep what the lock keeps.
use Rattle.std.proofs.Common.{◌≡◌, ◌≢◌, ℕ, zero, suc, ◌+◌, ◌≤◌, ◌<◌, ◌⊎◌, inl, inr, Bool, true, false, cond, not, ◌&&◌, ◌==◌, List, [], ◌∷◌, length, Option, Some, None, refl, sym, ap, subst, ◌∙◌, arith}
use Rattle.std.specs.Prelude.{nat_lt}
use Rattle.std.specs.List.{slice_get}
use Rattle.std.proofs.lemmas.Option.{none-some, same_Some}
use Rattle.std.proofs.lemmas.Bool.{and_parts}
use Rattle.page_model.specs.declared.event.Shown.{Shown}
use Rattle.series_table.specs.Talking.{Talking, Followed}
use Rattle.target_table.specs.Runs.{Run, IsRightRun, most_of_run}
use Rattle.series_table.specs.Records.{Kept, IsShownOf, MayShow}
use Rattle.series_table.specs.Moving.{without_second}
use Rattle.series_table.proofs.Laws.{track-without_second}
use Rattle.target_table.specs.Machine.{changed_at, turn_of, place_where, fewest}
use Rattle.series_table.specs.Tracks.{IsTrackAt}
use Rattle.target_table.specs.Tables.{Held, Leased, holders, may_leave, visits_in, next_place, IsTrackHome, IsSlot, AreSlots, AreNumbers, IsTable, IsLease, MayBePut, seen_after, TakesTarget, PutsTarget}
use Rattle.target_table.proofs.Places.{equal_numbers, unequal_numbers, same_number, below}

-- ---- lists with one element changed

pub same_length : {A : Type 0} (f : A → A) (xs : List A) (i : ℕ) → length (changed_at f xs i) ≡ length xs
same_length f [] i = refl
same_length f (x ∷ xs) zero = refl
same_length f (x ∷ xs) (suc i) = ap suc (same_length f xs i)

pub changed_to_same : {A : Type 0} (xs : List A) (i : ℕ) → changed_at (λ x. x) xs i ≡ xs
changed_to_same [] i = refl
changed_to_same (x ∷ xs) zero = refl
changed_to_same (x ∷ xs) (suc i) = ap (λ ys. x ∷ ys) (changed_to_same xs i)

-- 1 where two numbers are equal
pub hit : ℕ → ℕ → ℕ
hit m n = cond (m == n) 1 0

pub holders-step : (number n : ℕ) (ns : List ℕ) → holders number (n ∷ ns) ≡ hit n number + holders number ns
unfolding hit
holders-step number n ns = go (n == number) refl
  where
    go : (b : Bool) → (n == number) ≡ b → holders number (n ∷ ns) ≡ hit n number + holders number ns
    go true e = rw e (omega arith)
    go false e = rw e (omega arith)

-- a changed book counts for its new number in place of its old one
holders-changed : (number old new : ℕ) (books : List ℕ) (lane : ℕ) → slice_get books lane ≡ Some old → holders number (changed_at (λ _. new) books lane) + hit old number ≡ holders number books + hit new number
holders-changed number old new [] lane e = absurd (none-some old e)
holders-changed number old new (n ∷ ns) zero e =
    let same : hit n number ≡ hit old number = ap (λ x. hit x number) (same_Some n old e) in
    let a = holders-step number new ns in
    let b = holders-step number n ns in
    omega arith
holders-changed number old new (n ∷ ns) (suc lane) e =
    let rest = holders-changed number old new ns lane e in
    let a = holders-step number n (changed_at (λ _. new) ns lane) in
    let b = holders-step number n ns in
    omega arith

pub hit-same : (n : ℕ) → hit n n ≡ 1
unfolding hit
hit-same n = rw (same_number n) refl

pub hit-other : (m n : ℕ) → (m ≡ n → ⊥) → hit m n ≡ 0
unfolding hit
hit-other m n apart = go (m == n) refl
  where
    go : (b : Bool) → (m == n) ≡ b → hit m n ≡ 0
    go true e = absurd (apart (equal_numbers m n e))
    go false e = rw e refl

some-holder : (number : ℕ) (books : List ℕ) (lane : ℕ) → slice_get books lane ≡ Some number → 1 ≤ holders number books
some-holder number books lane e =
    let h = holders-changed number number (number + 1) books lane e in
    let a = hit-same number in
    let b = hit-other (number + 1) number (λ x. omega arith) in
    omega arith

-- ---- one slot changes

slot-same : (w : Talking) (rounds : ℕ) (f : Followed) (place : ℕ) (books others : List ℕ) (s : Shown) (slot : Option Kept) → holders (place + 1) others ≡ holders (place + 1) books → IsSlot w rounds f place books s slot → IsSlot w rounds f place others s slot
slot-same w rounds f place books others s None e h = (h.0, e ∙ h.1)
slot-same w rounds f place books others s (Some k) e h = (h.0, e ∙ h.1, h.2)

-- the slots from a place on, none of which is changed
slots-same : (w : Talking) (rounds : ℕ) (books others : List ℕ) (from : ℕ) (fs : List Followed) (slots : List (Option Kept)) (seen : List Shown)
    → ((j : ℕ) → from ≤ j → holders (j + 1) others ≡ holders (j + 1) books) → AreSlots w rounds books from fs slots seen → AreSlots w rounds others from fs slots seen
slots-same w rounds books others from [] [] [] same h = tt
slots-same w rounds books others from (f ∷ fs) (slot ∷ slots) (s ∷ seen) same h =
    (slot-same w rounds f from books others s slot (same from (omega arith)) h.0, slots-same w rounds books others (from + 1) fs slots seen (λ j k. same j (omega arith)) h.1)
slots-same w rounds books others from [] (slot ∷ slots) seen same h = absurd h
slots-same w rounds books others from [] [] (s ∷ seen) same h = absurd h
slots-same w rounds books others from (f ∷ fs) [] seen same h = absurd h
slots-same w rounds books others from (f ∷ fs) (slot ∷ slots) [] same h = absurd h

slots-changed : (w : Talking) (rounds : ℕ) (books others : List ℕ) (from at : ℕ) (fs : List Followed) (slots : List (Option Kept)) (seen : List Shown) (g : Option Kept → Option Kept) (h : Shown → Shown)
    → ((j : ℕ) → j ≢ from + at → holders (j + 1) others ≡ holders (j + 1) books)
    → ((f : Followed) (slot : Option Kept) (s : Shown) → slice_get fs at ≡ Some f → slice_get slots at ≡ Some slot → IsSlot w rounds f (from + at) books s slot → IsSlot w rounds f (from + at) others (h s) (g slot))
    → AreSlots w rounds books from fs slots seen → AreSlots w rounds others from fs (changed_at g slots at) (changed_at h seen at)
slots-changed w rounds books others from at [] [] [] g h same new all = tt
slots-changed w rounds books others from zero (f ∷ fs) (slot ∷ slots) (s ∷ seen) g h same new all =
    let here : from + 0 ≡ from = omega arith in (
      subst (λ p. IsSlot w rounds f p others (h s) (g slot)) here (new f slot s refl refl (subst (λ p. IsSlot w rounds f p books s slot) (sym here) all.0)),
      slots-same w rounds books others (from + 1) fs slots seen (λ j k. same j (λ e. omega arith)) all.1,
    )
slots-changed w rounds books others from (suc at) (f ∷ fs) (slot ∷ slots) (s ∷ seen) g h same new all =
    let shift : from + 1 + at ≡ from + suc at = omega arith in (
      slot-same w rounds f from books others s slot (same from (λ e. omega arith)) all.0,
      slots-changed w rounds books others (from + 1) at fs slots seen g h (λ j k. same j (λ e. k (e ∙ sym shift)))
          (λ f' slot' s' x y z. subst (λ p. IsSlot w rounds f' p others (h s') (g slot')) (sym shift) (new f' slot' s' x y (subst (λ p. IsSlot w rounds f' p books s' slot') shift z))) all.1,
    )
slots-changed w rounds books others from at [] (slot ∷ slots) seen g h same new all = absurd all
slots-changed w rounds books others from at [] [] (s ∷ seen) g h same new all = absurd all
slots-changed w rounds books others from at (f ∷ fs) [] seen g h same new all = absurd all
slots-changed w rounds books others from at (f ∷ fs) (slot ∷ slots) [] g h same new all = absurd all

-- what is kept of the slot at a place
pub slot-at : (w : Talking) (rounds : ℕ) (books : List ℕ) (from at : ℕ) (fs : List Followed) (slots : List (Option Kept)) (seen : List Shown) (slot : Option Kept) → slice_get slots at ≡ Some slot → AreSlots w rounds books from fs slots seen
    → (f : Followed) × (s : Shown) × (slice_get fs at ≡ Some f) × IsSlot w rounds f (from + at) books s slot
slot-at w rounds books from at [] [] [] slot e all = absurd (none-some slot e)
slot-at w rounds books from zero (f ∷ fs) (x ∷ slots) (s ∷ seen) slot e all =
    let here : from + 0 ≡ from = omega arith in
    (f, s, refl, subst (λ p. IsSlot w rounds f p books s slot) (sym here) (subst (IsSlot w rounds f from books s) (same_Some x slot e) all.0))
slot-at w rounds books from (suc at) (f ∷ fs) (x ∷ slots) (s ∷ seen) slot e all =
    let shift : from + 1 + at ≡ from + suc at = omega arith in
    let r = slot-at w rounds books (from + 1) at fs slots seen slot e all.1 in
    (r.0, r.1, r.2, subst (λ p. IsSlot w rounds r.0 p books r.1 slot) shift r.3)
slot-at w rounds books from at [] (x ∷ slots) seen slot e all = absurd all
slot-at w rounds books from at [] [] (s ∷ seen) slot e all = absurd all
slot-at w rounds books from at (f ∷ fs) [] seen slot e all = absurd all
slot-at w rounds books from at (f ∷ fs) (x ∷ slots) [] slot e all = absurd all

numbers-changed : (most number : ℕ) (books : List ℕ) (lane : ℕ) → number ≤ most → AreNumbers most books → AreNumbers most (changed_at (λ _. number) books lane)
numbers-changed most number [] lane few h = tt
numbers-changed most number (n ∷ ns) zero few h = (few, h.1)
numbers-changed most number (n ∷ ns) (suc lane) few h = (h.0, numbers-changed most number ns lane few h.1)

pub within : {A : Type 0} (xs : List A) (i : ℕ) (x : A) → slice_get xs i ≡ Some x → i < length xs
within [] i x e = absurd (none-some x e)
within (y ∷ ys) zero x e = omega arith
within (y ∷ ys) (suc i) x e = let r = within ys i x e in omega arith

-- ---- whose turn it is

first-passes : {A : Type 0} (test : A → Bool) (xs : List A) (i : ℕ) (x : A) → place_where test xs ≡ Some i → slice_get xs i ≡ Some x → test x ≡ true
first-passes test [] i x e at = absurd (none-some i e)
first-passes {A} test (y ∷ ys) i x e at = go (test y) refl (place_where test ys) refl (λ j f g. first-passes test ys j x f g)
  where
    go : (b : Bool) → test y ≡ b → (o : Option ℕ) → place_where test ys ≡ o → ((j : ℕ) → place_where test ys ≡ Some j → slice_get ys j ≡ Some x → test x ≡ true) → test x ≡ true
    go true p o q later =
        let zero_is : 0 ≡ i = same_Some 0 i (rw p at e) in
        let there : slice_get (y ∷ ys) 0 ≡ Some x = subst (λ n. slice_get (y ∷ ys) n ≡ Some x) (sym zero_is) at in
        subst (λ z. test z ≡ true) (same_Some y x there) p
    go false p None q later = absurd (none-some i (rw (p, q) at e))
    go false p (Some j) q later =
        let next : j + 1 ≡ i = same_Some (j + 1) i (rw (p, q) at e) in
        let as_suc : i ≡ suc j = omega arith in
        let there : slice_get (y ∷ ys) (suc j) ≡ Some x = subst (λ n. slice_get (y ∷ ys) n ≡ Some x) as_suc at in
        later j q there

pub turn-passes : {A : Type 0} (visits : A → ℕ) (test : A → Bool) (xs : List A) (i : ℕ) (x : A) → turn_of visits test xs ≡ Some i → slice_get xs i ≡ Some x → test x ≡ true
unfolding turn_of
turn-passes {A} visits test xs i x e at = go (fewest visits test xs) refl
  where
    go : (o : Option ℕ) → fewest visits test xs ≡ o → test x ≡ true
    go None p = absurd (none-some i (rw p at e))
    go (Some n) p = (and_parts (test x) (visits x == n) (first-passes (λ z. test z && visits z == n) xs i x (rw p at e) at)).0

-- what is taken is a track of the run's target, which knows its visits and has no second page
pub record IsTakenTrack (w : Talking) (run : Run) (place : ℕ) (k : Kept) : Type 0 where
  pub followed : Followed
  pub target : slice_get run.targets place ≡ Some followed
  pub track : IsTrackAt w followed place k
  pub left : k.counts.visits < run.rounds
  pub no_second : k.second ≡ None

pub turn_is_taken : (w : Talking) (run : Run) (h : Held) (place : ℕ) (k : Kept) → IsTable w run h → next_place run.rounds h.slots ≡ Some place → slice_get h.slots place ≡ Some (Some k) → IsTakenTrack w run place k
turn_is_taken w run h place k table turn there =
    let slot = slot-at w run.rounds h.books 0 place run.targets h.slots h.seen (Some k) there table.targets in
    let zero_place : 0 + place ≡ place = omega arith in
    let home : IsTrackHome w run.rounds slot.0 place slot.1 k = subst (λ p. IsTrackHome w run.rounds slot.0 p slot.1 k) zero_place slot.3.2 in
    let may = and_parts (not k.halted) (nat_lt k.counts.visits run.rounds) (turn-passes visits_in (may_leave run.rounds) h.slots place (Some k) turn there) in
    record { followed = slot.0; target = slot.2; track = home.at; left = below k.counts.visits run.rounds may.1; no_second = home.no_second }

-- a turn falls on a place of the list
first-within : {A : Type 0} (test : A → Bool) (xs : List A) (i : ℕ) → place_where test xs ≡ Some i → i < length xs
first-within test [] i e = absurd (none-some i e)
first-within {A} test (y ∷ ys) i e = go (test y) refl (place_where test ys) refl (λ j f. first-within test ys j f)
  where
    go : (b : Bool) → test y ≡ b → (o : Option ℕ) → place_where test ys ≡ o → ((j : ℕ) → place_where test ys ≡ Some j → j < length ys) → i < length (y ∷ ys)
    go true p o q later = let zero_is : 0 ≡ i = same_Some 0 i (rw p at e) in omega arith
    go false p None q later = absurd (none-some i (rw (p, q) at e))
    go false p (Some j) q later = let next : j + 1 ≡ i = same_Some (j + 1) i (rw (p, q) at e) in let l = later j q in omega arith

pub turn-within : {A : Type 0} (visits : A → ℕ) (test : A → Bool) (xs : List A) (i : ℕ) → turn_of visits test xs ≡ Some i → i < length xs
unfolding turn_of
turn-within {A} visits test xs i e = go (fewest visits test xs) refl
  where
    go : (o : Option ℕ) → fewest visits test xs ≡ o → i < length xs
    go None p = absurd (none-some i (rw p at e))
    go (Some n) p = first-within (λ z. test z && visits z == n) xs i (rw p at e)

-- ---- a take, and a put

-- the table after a call, from its parts
with_parts : (w : Talking) (run : Run) (after : Held) (slots : List (Option Kept)) (books : List ℕ) (seen : List Shown) → after.slots ≡ slots → after.books ≡ books → after.seen ≡ seen
    → IsRightRun run → AreSlots w run.rounds books 0 run.targets slots seen → length slots ≤ most_of_run → AreNumbers (length slots) books → IsTable w run after
with_parts w run after slots books seen a b c right targets few numbers = record {
  run_is = right;
  targets = subst (λ x. AreSlots w run.rounds after.books 0 run.targets x after.seen) (sym a) (subst (λ y. AreSlots w run.rounds y 0 run.targets slots after.seen) (sym b) (subst (λ z. AreSlots w run.rounds books 0 run.targets slots z) (sym c) targets));
  few = subst (λ x. length x ≤ most_of_run) (sym a) few;
  numbers = subst (λ x. AreNumbers (length x) after.books) (sym a) (subst (λ y. AreNumbers (length slots) y) (sym b) numbers);
}

-- one lane's number is another: the others' holders stay
others-stay : (old new place : ℕ) (books : List ℕ) (lane : ℕ) → slice_get books lane ≡ Some old → (old ≡ 0) ⊎ (old ≡ place + 1) → (new ≡ 0) ⊎ (new ≡ place + 1)
    → (j : ℕ) → j ≢ place → holders (j + 1) (changed_at (λ _. new) books lane) ≡ holders (j + 1) books
others-stay old new place books lane there was is j apart =
    let c = holders-changed (j + 1) old new books lane there in
    let a = hit-other old (j + 1) (λ e. differs old was e) in
    let b = hit-other new (j + 1) (λ e. differs new is e) in
    omega arith
  where
    differs : (n : ℕ) → (n ≡ 0) ⊎ (n ≡ place + 1) → n ≡ j + 1 → ⊥
    differs n (inl z) e = omega arith
    differs n (inr z) e = apart (omega arith)

pub take_keeps : (w : Talking) (run : Run) (lane : ℕ) (before after : Held) (l : Leased) → IsTable w run before → slice_get before.books lane ≡ Some 0 → TakesTarget w run lane before after l → IsTable w run after
take_keeps w run lane before after l table free t =
    with_parts w run after (changed_at (λ _. None) before.slots t.place) (changed_at (λ _. l.number) before.books lane) (changed_at (λ s. s) before.seen t.place) t.slots t.books (t.seen ∙ sym (changed_to_same before.seen t.place)) table.run_is
    (slots-changed w run.rounds before.books (changed_at (λ _. l.number) before.books lane) 0 t.place run.targets before.slots before.seen (λ _. None) (λ s. s)
    (λ j apart. others-stay 0 l.number t.place before.books lane free (inl refl) (inr t.lease.number) j (λ e. apart (omega arith)))
    (λ f slot s x y z. out_slot f slot s y z) table.targets)
    (let n = same_length (λ _. None) before.slots t.place in let p = table.few in omega arith)
    (subst (λ n. AreNumbers n (changed_at (λ _. l.number) before.books lane)) (sym (same_length (λ _. None) before.slots t.place))
    (numbers-changed (length before.slots) l.number before.books lane (let n = t.lease.number in let p = within before.slots t.place (Some l.track) t.was in omega arith) table.numbers))
  where
    counted : holders (0 + t.place + 1) (changed_at (λ _. l.number) before.books lane) ≡ holders (0 + t.place + 1) before.books + 1
    counted =
        let c = holders-changed (0 + t.place + 1) 0 l.number before.books lane free in
        let a = hit-other 0 (0 + t.place + 1) (λ e. omega arith) in
        let n : l.number ≡ 0 + t.place + 1 = t.lease.number ∙ omega arith in
        let b : hit l.number (0 + t.place + 1) ≡ 1 = subst (λ m. hit m (0 + t.place + 1) ≡ 1) (sym n) (hit-same (0 + t.place + 1)) in
        omega arith

    out_slot : (f : Followed) (slot : Option Kept) (s : Shown) → slice_get before.slots t.place ≡ Some slot → IsSlot w run.rounds f (0 + t.place) before.books s slot → IsSlot w run.rounds f (0 + t.place) (changed_at (λ _. l.number) before.books lane) s None
    out_slot f None s y z = absurd (let e : None ≡ Some l.track = same_Some None (Some l.track) (sym y ∙ t.was) in none-some l.track e)
    out_slot f (Some k) s y z = (z.0, counted ∙ ap (λ n. n + 1) z.1)

pub out_is_empty : (w : Talking) (run : Run) (h : Held) (lane place : ℕ) (slot : Option Kept) → IsTable w run h → slice_get h.books lane ≡ Some (place + 1) → slice_get h.slots place ≡ Some slot → slot ≡ None
out_is_empty w run h lane place None table out there = refl
out_is_empty w run h lane place (Some k) table out there = absurd (
    let slot = slot-at w run.rounds h.books 0 place run.targets h.slots h.seen (Some k) there table.targets in
    let one = some-holder (place + 1) h.books lane out in
    let none : holders (place + 1) h.books ≡ 0 = subst (λ p. holders (p + 1) h.books ≡ 0) zero_place slot.3.1 in
    omega arith)
  where
    zero_place : 0 + place ≡ place
    zero_place = omega arith

-- what readers see of a target that is put back is a page that it may show
seen-shows : (f : Followed) (k : Kept) (s : Shown) → IsShownOf f s → MayShow f k.second → IsShownOf f (seen_after k s)
seen-shows f k s old new = go k.second refl
  where
    go : (o : Option Shown) → k.second ≡ o → IsShownOf f (seen_after k s)
    go None e = rw e old
    go (Some x) e = rw e (subst (MayShow f) e new)

-- a number is another, or it is not
pub same_or_not : (m n : ℕ) → (m ≡ n) ⊎ (m ≢ n)
same_or_not m n = go (m == n) refl
  where
    go : (b : Bool) → (m == n) ≡ b → (m ≡ n) ⊎ (m ≢ n)
    go true e = inl (equal_numbers m n e)
    go false e = inr (unequal_numbers m n e)

home-again : (w : Talking) (run : Run) (l : Leased) (place : ℕ) (f : Followed) (s : Shown) → IsLease w run l place f → MayBePut l → IsTrackHome w run.rounds f place (seen_after l.track s) (without_second l.track)
home-again w run l place f s lease put = record {
  at = record { followed = lease.track.followed; scrape_place = lease.track.scrape_place; post_place = lease.track.post_place; track = track-without_second w l.track lease.track.track };
  visits = few (same_or_not l.track.counts.visits l.from);
  left = λ halted. left halted (same_or_not l.track.counts.visits l.from);
  no_second = refl;
  seen_is = λ working. seen working (same_or_not l.track.counts.visits l.from);
}
  where
    few : (l.track.counts.visits ≡ l.from) ⊎ (l.track.counts.visits ≢ l.from) → l.track.counts.visits ≤ run.rounds
    few (inl e) = let b = lease.from in omega arith
    few (inr e) = let b = lease.from in let v = (put.visited e).0 in omega arith

    left : l.track.halted ≡ true → (l.track.counts.visits ≡ l.from) ⊎ (l.track.counts.visits ≢ l.from) → l.track.counts.visits < run.rounds
    left halted (inl e) = let b = lease.from in omega arith
    left halted (inr e) = absurd (let h = (put.visited e).2 in let x : true ≡ false = sym halted ∙ h in cc)

    seen : l.track.halted ≡ false → (l.track.counts.visits ≡ l.from) ⊎ (l.track.counts.visits ≢ l.from) → seen_after l.track s ≡ l.track.shown
    seen working (inl e) = absurd (let h = (put.halted e).0 in let x : true ≡ false = sym h ∙ working in cc)
    seen working (inr e) = rw (put.visited e).1 refl

pub put_keeps : (w : Talking) (run : Run) (lane : ℕ) (before after : Held) (l : Leased) (place : ℕ) (f : Followed) → IsTable w run before → IsLease w run l place f → MayBePut l
    → slice_get before.books lane ≡ Some l.number → PutsTarget lane before after l → IsTable w run after
put_keeps w run lane before after l place f table lease put held t =
    with_parts w run after (changed_at (λ _. Some (without_second l.track)) before.slots place) (changed_at (λ _. 0) before.books lane) (changed_at (seen_after l.track) before.seen place)
    (t.slots ∙ ap (changed_at (λ _. Some (without_second l.track)) before.slots) here) t.books (t.seen ∙ ap (changed_at (seen_after l.track) before.seen) here) table.run_is
    (slots-changed w run.rounds before.books (changed_at (λ _. 0) before.books lane) 0 place run.targets before.slots before.seen (λ _. Some (without_second l.track)) (seen_after l.track)
    (λ j apart. others-stay l.number 0 place before.books lane held (inr lease.number) (inl refl) j (λ e. apart (omega arith)))
    (λ g slot s x y z. home_slot g slot s x z) table.targets)
    (let n = same_length (λ _. Some (without_second l.track)) before.slots place in let p = table.few in omega arith)
    (subst (λ n. AreNumbers n (changed_at (λ _. 0) before.books lane)) (sym (same_length (λ _. Some (without_second l.track)) before.slots place))
    (numbers-changed (length before.slots) 0 before.books lane (omega arith) table.numbers))
  where
    here : t.place ≡ place
    here = let a = t.number in let b = lease.number in omega arith

    number_is : l.number ≡ 0 + place + 1
    number_is = lease.number ∙ omega arith

    counted : holders (0 + place + 1) (changed_at (λ _. 0) before.books lane) + 1 ≡ holders (0 + place + 1) before.books
    counted =
        let c = holders-changed (0 + place + 1) l.number 0 before.books lane held in
        let a = hit-other 0 (0 + place + 1) (λ e. omega arith) in
        let b : hit l.number (0 + place + 1) ≡ 1 = subst (λ m. hit m (0 + place + 1) ≡ 1) (sym number_is) (hit-same (0 + place + 1)) in
        omega arith

    home_slot : (g : Followed) (slot : Option Kept) (s : Shown) → slice_get run.targets place ≡ Some g → IsSlot w run.rounds g (0 + place) before.books s slot → IsSlot w run.rounds g (0 + place) (changed_at (λ _. 0) before.books lane) (seen_after l.track s) (Some (without_second l.track))
    home_slot g None s x z =
        let same : f ≡ g = same_Some f g (sym lease.target ∙ x) in
        let second : MayShow g l.track.second = subst (λ q. MayShow q l.track.second) (lease.track.followed ∙ same) lease.track.track.second_shows in
        let home : IsTrackHome w run.rounds g (0 + place) (seen_after l.track s) (without_second l.track) = subst (λ p. IsTrackHome w run.rounds g p (seen_after l.track s) (without_second l.track)) zero_place (subst (λ q. IsTrackHome w run.rounds q place (seen_after l.track s) (without_second l.track)) same (home-again w run l place f s lease put)) in
        (seen-shows g l.track s z.0 second, (let o = z.1 in let c = counted in omega arith), home)
      where
        zero_place : place ≡ 0 + place
        zero_place = omega arith
    home_slot g (Some k) s x z = absurd (
        let one = some-holder l.number before.books lane held in
        let none : holders l.number before.books ≡ 0 = subst (λ n. holders n before.books ≡ 0) (sym number_is) z.1 in
        omega arith)
