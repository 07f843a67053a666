-- A row is all that a reading's time and start need of a past.
use Rattle.std.proofs.Common.{◌≡◌, ℕ, ◌+◌, ◌≤◌, ◌<◌, Bool, true, false, cond, not, List, [], ◌∷◌, find, unwrap_or, Option, Some, None, is_some, option_map, option_and_then, refl, sym, ap, subst, ◌∙◌, arith}
use Rattle.std.specs.Prelude.{nat_le, nat_lt, nat_eq}
use Rattle.std.specs.Option.{option_eq}
use Rattle.std.proofs.lemmas.Option.{none-some, same_Some}
use Rattle.std.proofs.lemmas.Bool.{le-leb, leb-true, leb-false, lt-leb, ltb-true, or_parts, not-false}
use Rattle.label_sets.specs.declared.series_key.SeriesKey.{SeriesKey}
use Rattle.label_sets.specs.Keys.{key_eq}
use Rattle.label_sets.proofs.Laws.{key_decides}
use Rattle.page_model.specs.declared.page.Reading.{Reading}
use Rattle.page_model.specs.Presence.{all_readings, reading_at, is_present}
use Rattle.start_times.specs.Scrapes.{Scrape}
use Rattle.start_times.specs.Starts.{Tracking, Sight, has_points, time_of, time_at, is_later, later_sight, taken_behind, last_taken, is_taken, created_at, last_of, falls, differs, is_reset, is_reset_beside, begins_at, last_reset, start_time, start_at, placed}
use Rattle.start_times.specs.Rows.{row_of, row_behind, kept_row, is_later_than, is_reset_since, reset_since, start_beside, placed_beside, taken_row, row_at_age, row_now, older_row}
use Rattle.start_times.specs.Laws.{RowIsEnough, RowOfSight, RowOfMiss, StartWithoutPast}

-- ---- tests

none_equal : (o : Option ℕ) → option_eq nat_eq o None ≡ true → o ≡ None
none_equal None e = refl
none_equal (Some n) e = absurd (let h : false ≡ true = e in cc)

pub some_is : {A : Type 0} (o : Option A) → is_some o ≡ true → (x : A) × (o ≡ Some x)
some_is None e = absurd cc
some_is (Some x) e = (x, refl)

pub none_is : {A : Type 0} (o : Option A) → is_some o ≡ false → o ≡ None
none_is None e = refl
none_is (Some x) e = absurd cc

found_passes : {A : Type 0} (test : A → Bool) (xs : List A) (x : A) → find test xs ≡ Some x → test x ≡ true
found_passes test [] x e = absurd (none-some x e)
found_passes {A} test (y ∷ ys) x e = go (test y) refl (found_passes test ys x)
  where
    go : (b : Bool) → test y ≡ b → (find test ys ≡ Some x → test x ≡ true) → test x ≡ true
    go true h later = let same : y ≡ x = same_Some y x (rw h at e) in subst (λ z. test z ≡ true) same h
    go false h later = later (rw h at e)

-- the reading of a series is one of it
pub reading_is_of : (key : SeriesKey) (s : Scrape) (r : Reading) → reading_at key s.page ≡ Some r → r.key ≡ key
reading_is_of key s r e = sym ((key_decides key r.key).0 (found_passes (λ (q : Reading). key_eq key q.key) (all_readings s.page) r e))

-- ---- where a series was last taken

-- the last reset up to a sight
abbrev pub reset_at : Tracking → Sight → ℕ
reset_at t s = cond (is_reset t s.moment s.reading s.before) (time_at t s) (last_reset t s.reading.key s.before)

-- a sight of this scrape
abbrev pub here_of : Scrape → List Scrape → Reading → Sight
here_of now past r = record { reading = r; moment = now.moment; before = past }

pub stands : (t : Tracking) (key : SeriesKey) (past : List Scrape) (missed : ℕ) (s : Sight) → taken_behind t key missed past ≡ Some s → (s.reading.key ≡ key) × (last_reset t key past ≡ reset_at t s)
stands t key [] missed s e = absurd (none-some s e)
stands t key (now ∷ past) missed s e = go (reading_at key now.page) refl (stands t key past (missed + 1) s) (stands t key past 0 s)
  where
    Goal : Type 0
    Goal = (s.reading.key ≡ key) × (last_reset t key (now ∷ past) ≡ reset_at t s)

    Later : ℕ → Type 0
    Later missed = taken_behind t key missed past ≡ Some s → (s.reading.key ≡ key) × (last_reset t key past ≡ reset_at t s)

    taken_here : (r : Reading) → reading_at key now.page ≡ Some r → is_taken t now.moment r past ≡ true → here_of now past r ≡ s → Goal
    taken_here r p taken is =
        let same : r.key ≡ key = reading_is_of key now r p in
        let here : last_reset t key (now ∷ past) ≡ cond (is_reset t now.moment r past) (time_of t now.moment r) (last_reset t key past) = rw (p, taken) refl in
        let keyed : cond (is_reset t now.moment r past) (time_of t now.moment r) (last_reset t key past) ≡ reset_at t (here_of now past r) = ap (λ k. cond (is_reset t now.moment r past) (time_of t now.moment r) (last_reset t k past)) (sym same) in
        subst (λ (z : Sight). (z.reading.key ≡ key) × (last_reset t key (now ∷ past) ≡ reset_at t z)) is (same, here ∙ keyed)

    passed_over : (r : Reading) → reading_at key now.page ≡ Some r → is_taken t now.moment r past ≡ false → (s.reading.key ≡ key) × (last_reset t key past ≡ reset_at t s) → Goal
    passed_over r p late h = (h.0, rw (p, late) h.1)

    go : (o : Option Reading) → reading_at key now.page ≡ o → Later (missed + 1) → Later 0 → Goal
    go None p further before = let h = further (rw p at e) in (h.0, rw p h.1)
    go (Some r) p further before = by (nat_le missed t.keep) refl (is_later t (taken_behind t key 0 past) (time_of t now.moment r)) refl
      where
        keyed : (b : Bool) → is_later t (taken_behind t key 0 past) (time_of t now.moment r) ≡ b → is_taken t now.moment r past ≡ b
        keyed b h = subst (λ k. is_later t (taken_behind t k 0 past) (time_of t now.moment r) ≡ b) (sym (reading_is_of key now r p)) h

        by : (b : Bool) → nat_le missed t.keep ≡ b → (c : Bool) → is_later t (taken_behind t key 0 past) (time_of t now.moment r) ≡ c → Goal
        by false h c l = absurd (none-some s (rw (p, h) at e))
        by true h true l = taken_here r p (keyed true l) (same_Some (here_of now past r) s (rw (p, h, l) at e))
        by true h false l = passed_over r p (keyed false l) (before (rw (p, h, l) at e))

-- the last reset is not after the time at which the series was last taken
pub reset_before : (t : Tracking) (key : SeriesKey) (past : List Scrape) (missed : ℕ) (s : Sight) → taken_behind t key missed past ≡ Some s → last_reset t key past ≤ time_at t s
reset_before t key [] missed s e = absurd (none-some s e)
reset_before t key (now ∷ past) missed s e = go (reading_at key now.page) refl (reset_before t key past (missed + 1) s) (reset_before t key past 0)
  where
    Goal : Type 0
    Goal = last_reset t key (now ∷ past) ≤ time_at t s

    -- beside an earlier sight or none, a reading that is taken
    taken_here : (r : Reading) → reading_at key now.page ≡ Some r → here_of now past r ≡ s → (o : Option Sight) → taken_behind t key 0 past ≡ o → is_later t o (time_of t now.moment r) ≡ true
        → ((z : Sight) → taken_behind t key 0 past ≡ Some z → last_reset t key past ≤ time_at t z) → Goal
    taken_here r p is o b l before = subst (λ (z : Sight). last_reset t key (now ∷ past) ≤ time_at t z) is (rw p (by (is_taken t now.moment r past) refl (is_reset t now.moment r past) refl))
      where
        same : r.key ≡ key
        same = reading_is_of key now r p

        taken : last_taken t r.key past ≡ o
        taken = subst (λ k. taken_behind t k 0 past ≡ o) (sym same) b

        by : (c : Bool) → is_taken t now.moment r past ≡ c → (d : Bool) → is_reset t now.moment r past ≡ d
            → cond (begins_at t now.moment r past) (time_of t now.moment r) (last_reset t key past) ≤ time_of t now.moment r
        by false c d x = absurd (let f : is_later t o (time_of t now.moment r) ≡ false = rw taken at c in let g : true ≡ false = sym l ∙ f in cc)
        by true c true x = rw (c, x) (omega arith)
        by true c false x = rw (c, x) (from o refl)
          where
            from : (q : Option Sight) → o ≡ q → last_reset t key past ≤ time_of t now.moment r
            from None i = absurd (let f : is_reset_beside t o (time_of t now.moment r) r ≡ false = rw taken at x in let g : true ≡ false = rw i at f in cc)
            from (Some z) i =
                let few : last_reset t key past ≤ time_at t z = before z (b ∙ i) in
                let less : nat_lt (time_at t z) (time_of t now.moment r) ≡ true = rw i at l in
                let below = ltb-true (time_at t z) (time_of t now.moment r) less in
                omega arith

    go : (o : Option Reading) → reading_at key now.page ≡ o → (taken_behind t key (missed + 1) past ≡ Some s → last_reset t key past ≤ time_at t s)
        → ((z : Sight) → taken_behind t key 0 past ≡ Some z → last_reset t key past ≤ time_at t z) → Goal
    go None p further before = rw p (further (rw p at e))
    go (Some r) p further before = by (nat_le missed t.keep) refl (is_later t (taken_behind t key 0 past) (time_of t now.moment r)) refl
      where
        by : (b : Bool) → nat_le missed t.keep ≡ b → (c : Bool) → is_later t (taken_behind t key 0 past) (time_of t now.moment r) ≡ c → Goal
        by false h c l = absurd (none-some s (rw (p, h) at e))
        by true h true l = taken_here r p (same_Some (here_of now past r) s (rw (p, h, l) at e)) (taken_behind t key 0 past) refl l before
        by true h false l =
            let late : is_taken t now.moment r past ≡ false = subst (λ k. is_later t (taken_behind t k 0 past) (time_of t now.moment r) ≡ false) (sym (reading_is_of key now r p)) l in
            rw (p, late) (before s (rw (p, h, l) at e))

-- ---- the row is that of the reading last taken

IsRow : Tracking → SeriesKey → ℕ → List Scrape → Option Sight → Type 0
IsRow t key missed past None = row_behind t key missed past ≡ None
IsRow t key missed past (Some s) = (age : ℕ) × (row_behind t key missed past ≡ Some (row_of t age s))

row_is : (t : Tracking) (key : SeriesKey) (past : List Scrape) (missed : ℕ) → IsRow t key missed past (taken_behind t key missed past)
unfolding IsRow
row_is t key [] missed = refl
row_is t key (now ∷ past) missed = go (reading_at key now.page) refl (row_is t key past (missed + 1))
  where
    further : (o : Option Sight) → is_present key now.page ≡ false → IsRow t key (missed + 1) past o → IsRow t key missed (now ∷ past) o
    further None p h = rw p h
    further (Some s) p h = (h.0, rw p h.1)

    same : (o : Option Sight) → row_behind t key missed (now ∷ past) ≡ option_map (row_of t missed) o → IsRow t key missed (now ∷ past) o
    same None h = h
    same (Some s) h = (missed, h)

    go : (o : Option Reading) → reading_at key now.page ≡ o → IsRow t key (missed + 1) past (taken_behind t key (missed + 1) past) → IsRow t key missed (now ∷ past) (taken_behind t key missed (now ∷ past))
    go None p rest = let gone : is_present key now.page ≡ false = rw p refl in
        let same_taken : taken_behind t key missed (now ∷ past) ≡ taken_behind t key (missed + 1) past = rw p refl in
        subst (IsRow t key missed (now ∷ past)) (sym same_taken) (further (taken_behind t key (missed + 1) past) gone rest)
    go (Some r) p rest = by (nat_le missed t.keep) refl
      where
        by : (b : Bool) → nat_le missed t.keep ≡ b → IsRow t key missed (now ∷ past) (taken_behind t key missed (now ∷ past))
        by true h = same (taken_behind t key missed (now ∷ past)) (let young : nat_le 0 t.keep ≡ true = le-leb 0 t.keep (omega arith) in rw (p, h, young) refl)
        by false h = let none : taken_behind t key missed (now ∷ past) ≡ None = rw (p, h) refl in subst (IsRow t key missed (now ∷ past)) (sym none) (rw (p, h) refl)

-- ---- the start from the row

-- a choice that is only looked at without a created time and without a reset
picked : (c : Option ℕ) (b : Bool) (time before row : ℕ) → (c ≡ None → b ≡ false → before ≡ row) → unwrap_or c (cond b time before) ≡ unwrap_or c (cond b time row)
picked (Some n) b time before row f = refl
picked None true time before row f = refl
picked None false time before row f = f refl refl

Agrees : Tracking → List Scrape → ℕ → Reading → Option Sight → Type 0
Agrees t past moment r o = (is_later t o (time_of t moment r) ≡ is_later_than (row_behind t r.key 0 past) (time_of t moment r))
    × (unwrap_or (created_at (time_of t moment r) r) (cond (is_reset_beside t o (time_of t moment r) r) (time_of t moment r) (last_reset t r.key past))
    ≡ unwrap_or (created_at (time_of t moment r) r) (reset_since (row_behind t r.key 0 past) (time_of t moment r) r))

agrees : (t : Tracking) (past : List Scrape) (moment : ℕ) (r : Reading) (o : Option Sight) → taken_behind t r.key 0 past ≡ o → IsRow t r.key 0 past o → Agrees t past moment r o
unfolding IsRow Agrees row_of differs is_reset_since start_time
agrees t past moment r None taken h = rw h (refl, refl)
agrees t past moment r (Some s) taken h =
    let time = time_of t moment r in
    let age = h.0 in
    let there = stands t r.key past 0 s taken in
    let d : Bool = differs (time_at t s) s.reading time r in
    rw h.1 (
      refl,
      picked (created_at time r) d time (last_reset t r.key past) (start_at t s) (λ none even.
          let parts = or_parts (falls r.key.kind (last_of s.reading.value) (last_of r.value)) (not (option_eq nat_eq (created_at (time_at t s) s.reading) (created_at time r))) even in
          let equal : option_eq nat_eq (created_at (time_at t s) s.reading) None ≡ true = subst (λ o. option_eq nat_eq (created_at (time_at t s) s.reading) o ≡ true) none (not-false (option_eq nat_eq (created_at (time_at t s) s.reading) (created_at time r)) parts.1) in
          let absent : created_at (time_at t s) s.reading ≡ None = none_equal (created_at (time_at t s) s.reading) equal in
          let row : start_at t s ≡ reset_at t s = ap (λ o. unwrap_or o (cond (is_reset t s.moment s.reading s.before) (time_at t s) (last_reset t s.reading.key s.before))) absent in
          there.1 ∙ sym row),
    )

-- what is later than the row is taken
pub later_is : (t : Tracking) (past : List Scrape) (moment : ℕ) (r : Reading) → has_points r.key.kind ≡ true → is_taken t moment r past ≡ is_later_than (kept_row t r.key past) (time_of t moment r)
unfolding kept_row Agrees
later_is t past moment r points = rw points (agrees t past moment r (taken_behind t r.key 0 past) refl (row_is t r.key past 0)).0

-- the start is that from the row
pub start_is : (t : Tracking) (past : List Scrape) (moment : ℕ) (r : Reading) → has_points r.key.kind ≡ true → start_time t moment r past ≡ start_beside (kept_row t r.key past) (time_of t moment r) r
unfolding kept_row start_time start_beside Agrees
start_is t past moment r points = rw points (agrees t past moment r (taken_behind t r.key 0 past) refl (row_is t r.key past 0)).1

pub row_is_enough : RowIsEnough
unfolding placed placed_beside
row_is_enough t past moment r points = rw (later_is t past moment r points, start_is t past moment r points) refl

-- ---- one scrape more

-- where a scrape has a series, it was last taken there or before
kept_present : (t : Tracking) (now : Scrape) (past : List Scrape) (r : Reading) → has_points r.key.kind ≡ true → reading_at r.key now.page ≡ Some r
    → kept_row t r.key (now ∷ past) ≡ option_map (row_of t 0) (later_sight t (last_taken t r.key past) (here_of now past r))
unfolding kept_row
kept_present t now past r points is = let young : nat_le 0 t.keep ≡ true = le-leb 0 t.keep (omega arith) in rw (points, is, young) refl

sight_row : (t : Tracking) (now : Scrape) (past : List Scrape) (r : Reading) (o : Option Sight) → last_taken t r.key past ≡ o → IsRow t r.key 0 past o → has_points r.key.kind ≡ true → reading_at r.key now.page ≡ Some r
    → option_map (row_of t 0) (later_sight t o (here_of now past r)) ≡ Some (row_now (kept_row t r.key past) (time_of t now.moment r) r)
unfolding IsRow row_of row_at_age kept_row taken_row
sight_row t now past r None taken h points is =
    let row : kept_row t r.key past ≡ None = rw (points, h) refl in
    let start : start_time t now.moment r past ≡ start_beside None (time_of t now.moment r) r = start_is t past now.moment r points ∙ ap (λ o. start_beside o (time_of t now.moment r) r) row in
    rw (row, start) refl
sight_row t now past r (Some s) taken h points is = by (nat_lt (time_at t s) (time_of t now.moment r)) refl
  where
    by : (b : Bool) → nat_lt (time_at t s) (time_of t now.moment r) ≡ b
        → option_map (row_of t 0) (later_sight t (Some s) (here_of now past r)) ≡ Some (row_now (kept_row t r.key past) (time_of t now.moment r) r)
    by true l =
        let row : kept_row t r.key past ≡ Some (row_of t h.0 s) = rw (points, h.1) refl in
        let start : start_time t now.moment r past ≡ start_beside (Some (row_of t h.0 s)) (time_of t now.moment r) r = start_is t past now.moment r points ∙ ap (λ o. start_beside o (time_of t now.moment r) r) row in
        rw (row, l, start) refl
    by false l =
        let row : kept_row t r.key past ≡ Some (row_of t h.0 s) = rw (points, h.1) refl in
        rw (row, l) refl

pub row_of_sight : RowOfSight
row_of_sight t now past key r points is = subst (λ k. has_points k.kind ≡ true → reading_at k now.page ≡ Some r → kept_row t k (now ∷ past) ≡ Some (row_now (kept_row t k past) (time_of t now.moment r) r)) (reading_is_of key now r is)
    (λ p e. kept_present t now past r p e ∙ sight_row t now past r (last_taken t r.key past) refl (row_is t r.key past 0) p e) points is

pub too_old : (t : Tracking) (key : SeriesKey) (past : List Scrape) (age : ℕ) → t.keep < age → row_behind t key age past ≡ None
too_old t key [] age h = refl
too_old t key (s ∷ past) age h = go (is_present key s.page) refl (too_old t key past (age + 1) (omega arith))
  where
    go : (b : Bool) → is_present key s.page ≡ b → row_behind t key (age + 1) past ≡ None → row_behind t key age (s ∷ past) ≡ None
    go true p rest = rw (p, lt-leb age t.keep h) refl
    go false p rest = rw p rest

-- one scrape later each row is older
older_sight : (t : Tracking) (age : ℕ) (o : Option Sight) → nat_le (age + 1) t.keep ≡ true → option_map (row_of t (age + 1)) o ≡ option_and_then (older_row t.keep) (option_map (row_of t age) o)
unfolding older_row row_at_age row_of
older_sight t age None h = refl
older_sight t age (Some s) h = rw h refl

oldest_sight : (t : Tracking) (age : ℕ) (o : Option Sight) → nat_le (age + 1) t.keep ≡ false → None ≡ option_and_then (older_row t.keep) (option_map (row_of t age) o)
unfolding older_row row_at_age row_of
oldest_sight t age None h = refl
oldest_sight t age (Some s) h = rw h refl

later : (t : Tracking) (key : SeriesKey) (past : List Scrape) (age : ℕ) → row_behind t key (age + 1) past ≡ option_and_then (older_row t.keep) (row_behind t key age past)
later t key [] age = refl
later t key (s ∷ past) age = go (is_present key s.page) refl (later t key past (age + 1))
  where
    go : (b : Bool) → is_present key s.page ≡ b → row_behind t key (age + 1 + 1) past ≡ option_and_then (older_row t.keep) (row_behind t key (age + 1) past) → row_behind t key (age + 1) (s ∷ past) ≡ option_and_then (older_row t.keep) (row_behind t key age (s ∷ past))
    go false p rest = rw p rest
    go true p rest = by (nat_le (age + 1) t.keep) refl (nat_le age t.keep) refl
      where
        by : (b : Bool) → nat_le (age + 1) t.keep ≡ b → (c : Bool) → nat_le age t.keep ≡ c → row_behind t key (age + 1) (s ∷ past) ≡ option_and_then (older_row t.keep) (row_behind t key age (s ∷ past))
        by true h true k = rw (p, h, k) (older_sight t age (last_taken t key (s ∷ past)) h)
        by true h false k = absurd (let x = leb-true (age + 1) t.keep h in let y = leb-false age t.keep k in omega arith)
        by false h true k = rw (p, h, k) (oldest_sight t age (last_taken t key (s ∷ past)) h)
        by false h false k = rw (p, h, k) refl

pub row_of_miss : RowOfMiss
unfolding kept_row
row_of_miss t now past key missed = go (has_points key.kind) refl
  where
    go : (b : Bool) → has_points key.kind ≡ b → kept_row t key (now ∷ past) ≡ option_and_then (older_row t.keep) (kept_row t key past)
    go false h = rw h refl
    go true h = rw (h, missed) (later t key past 0)

pub start_without_past : StartWithoutPast
unfolding start_time
start_without_past t moment r = refl
