-- What is missed for the first time: the rows of age 0 are those of the series with points that the last page has.
use Rattle.std.proofs.Common.{◌≡◌, ℕ, ◌+◌, ◌<◌, ◌≤◌, Bool, true, false, not, ◌&&◌, ◌||◌, List, [], ◌∷◌, map, zip, take, get_or, length, filter, find, Option, Some, None, is_some, option_map, refl, sym, ap, subst, ◌∙◌, arith}
use Rattle.std.specs.Prelude.{slice_get, nat_le, ◌==◌, if◌then◌else◌}
use Rattle.std.specs.List.{list_any, IsDistinct}
use Rattle.std.specs.Map.{lookup, keys_of}
use Rattle.std.proofs.lemmas.Bool.{and_parts, or_left, or_right, ne_eqb}
use Rattle.std.proofs.lemmas.List.Folds.{list_any_more}
use Rattle.std.proofs.lemmas.Option.{none-some, same_Some, slice_get_read, slice_get_within, get_or_from_slice_get}
use Rattle.std.proofs.lemmas.Map.Made.{is_some-lookup}
use Rattle.label_sets.specs.declared.series_key.SeriesKey.{SeriesKey}
use Rattle.label_sets.specs.Keys.{key_eq}
use Rattle.label_sets.proofs.Laws.{same_tests}
use Rattle.page_model.specs.declared.page.Reading.{Reading}
use Rattle.page_model.specs.declared.page.Page.{Page}
use Rattle.page_model.specs.Presence.{all_readings, reading_at, is_present}
use Rattle.start_times.specs.declared.row.Row.{Row}
use Rattle.start_times.specs.Scrapes.{Scrape, last_page}
use Rattle.start_times.specs.Starts.{Tracking, Sight, has_points, time_of, last_taken}
use Rattle.start_times.specs.Rows.{Tracked, Tracks, row_of, row_behind, kept_row, row_now}
use Rattle.start_times.specs.Sightings.{is_kept_reading, is_read, is_first_miss}
use Rattle.start_times.specs.Advancing.{scrape_of, lacks_some}
use Rattle.start_times.proofs.RowLaws.{reading_is_of, row_of_sight, some_is}
use Rattle.start_times.proofs.Found.{key_equal, key_itself, key_turned}
use Rattle.start_times.proofs.FewRows.{apart_from}
use Rattle.start_times.proofs.Advance.{read_there, both_at, mark_read, some_at}

-- ---- the age of a row

age_is : (t : Tracking) (age : ℕ) (o : Option Sight) (row : Row) → option_map (row_of t age) o ≡ Some row → row.age ≡ age
unfolding row_of
age_is t age None row e = absurd (none-some row e)
age_is t age (Some s) row e = ap (λ (r : Row). r.age) (sym (same_Some (row_of t age s) row e))

-- the row of a series that the last scrape has
age_here : (t : Tracking) (key : SeriesKey) (s : Scrape) (past : List Scrape) (age : ℕ) (row : Row) → is_present key s.page ≡ true → row_behind t key age (s ∷ past) ≡ Some row → row.age ≡ age
age_here t key s past age row there e = go (nat_le age t.keep) refl
  where
    go : (b : Bool) → nat_le age t.keep ≡ b → row.age ≡ age
    go true h = age_is t age (last_taken t key (s ∷ past)) row (rw (there, h) at e)
    go false h = absurd (none-some row (rw (there, h) at e))

-- behind so many misses a row is no younger
no_younger : (t : Tracking) (key : SeriesKey) (past : List Scrape) (age : ℕ) (row : Row) → row_behind t key age past ≡ Some row → age ≤ row.age
no_younger t key [] age row e = absurd (none-some row e)
no_younger t key (s ∷ past) age row e = go (is_present key s.page) refl (no_younger t key past (age + 1) row)
  where
    go : (b : Bool) → is_present key s.page ≡ b → (row_behind t key (age + 1) past ≡ Some row → age + 1 ≤ row.age) → age ≤ row.age
    go true p later = let same : row.age ≡ age = age_here t key s past age row p e in omega arith
    go false p later = let more : age + 1 ≤ row.age = later (rw p at e) in omega arith

not_zero : (n : ℕ) → 1 ≤ n → (n == 0) ≡ false
not_zero n h = ne_eqb n 0 (λ z. omega arith)

-- a row is of age 0 just where the last scrape has its series
is_fresh : (t : Tracking) (key : SeriesKey) (past : List Scrape) (row : Row) → row_behind t key 0 past ≡ Some row → (row.age == 0) ≡ is_present key (last_page past)
is_fresh t key [] row e = absurd (none-some row e)
is_fresh t key (s ∷ past) row e = go (is_present key s.page) refl
  where
    go : (b : Bool) → is_present key s.page ≡ b → (row.age == 0) ≡ b
    go true p = rw (age_here t key s past 0 row p e) refl
    go false p = not_zero row.age (no_younger t key past 1 row (rw p at e))

-- only series with points have rows
row_kept : (t : Tracking) (key : SeriesKey) (past : List Scrape) (row : Row) → kept_row t key past ≡ Some row → (has_points key.kind ≡ true) × (row_behind t key 0 past ≡ Some row)
unfolding kept_row
row_kept t key past row e = go (has_points key.kind) refl
  where
    go : (b : Bool) → has_points key.kind ≡ b → (has_points key.kind ≡ true) × (row_behind t key 0 past ≡ Some row)
    go true p = (p, rw p at e)
    go false p = absurd (none-some row (rw p at e))

-- and each of them that the last scrape has
has_row : (t : Tracking) (key : SeriesKey) (past : List Scrape) → has_points key.kind ≡ true → is_present key (last_page past) ≡ true → (row : Row) × (kept_row t key past ≡ Some row)
has_row t key [] points there = absurd (let f : false ≡ true = there in cc)
has_row t key (s ∷ before) points there =
    let r = some_is (reading_at key s.page) there in
    (row_now (kept_row t key before) (time_of t s.moment r.0) r.0, row_of_sight t s before key r.0 points r.1)

-- ---- lists

both : (a b : Bool) → a ≡ true → b ≡ true → (a && b) ≡ true
both true b p q = q
both false b p q = absurd cc

-- a reading that is found, and passes a test
found_passes : (of test : Reading → Bool) (rs : List Reading) (r : Reading) → find of rs ≡ Some r → test r ≡ true → list_any test rs ≡ true
found_passes of test [] r e h = absurd (none-some r e)
found_passes of test (x ∷ rs) r e h = go (of x) refl (found_passes of test rs r)
  where
    go : (b : Bool) → of x ≡ b → (find of rs ≡ Some r → test r ≡ true → list_any test rs ≡ true) → list_any test (x ∷ rs) ≡ true
    go true p later = let same : x ≡ r = same_Some x r (rw p at e) in or_left (test x) (list_any test rs) (subst (λ (y : Reading). test y ≡ true) (sym same) h)
    go false p later = or_right (test x) (list_any test rs) (later (rw p at e) h)

still_found : (key : SeriesKey) (r : Reading) (rs : List Reading) → is_some (find (λ (x : Reading). key_eq key x.key) rs) ≡ true → is_some (find (λ (x : Reading). key_eq key x.key) (r ∷ rs)) ≡ true
still_found key r rs h = go (key_eq key r.key) refl
  where
    go : (b : Bool) → key_eq key r.key ≡ b → is_some (find (λ (x : Reading). key_eq key x.key) (r ∷ rs)) ≡ true
    go true p = rw p refl
    go false p = rw p h

-- the reading that passes a test, where one does
reading_among : (test : Reading → Bool) (rs : List Reading) → list_any test rs ≡ true → (r : Reading) × (test r ≡ true) × (is_some (find (λ (x : Reading). key_eq r.key x.key) rs) ≡ true)
reading_among test [] h = absurd cc
reading_among test (r ∷ rs) h = go (test r) refl (reading_among test rs)
  where
    go : (b : Bool) → test r ≡ b → (list_any test rs ≡ true → (q : Reading) × (test q ≡ true) × (is_some (find (λ (x : Reading). key_eq q.key x.key) rs) ≡ true))
        → (q : Reading) × (test q ≡ true) × (is_some (find (λ (x : Reading). key_eq q.key x.key) (r ∷ rs)) ≡ true)
    go true p later = (r, p, rw (key_itself r.key) refl)
    go false p later = let q = later (rw p at h) in (q.0, q.1, still_found q.0.key r rs q.2)

-- the entry that passes a test, where one does, is the one of its series
entry_among : (test : SeriesKey × Row → Bool) (es : List (SeriesKey × Row)) → IsDistinct key_eq (keys_of es) → list_any test es ≡ true
    → (key : SeriesKey) × (row : Row) × (lookup (key_eq key) es ≡ Some row) × (test (key, row) ≡ true)
unfolding IsDistinct
entry_among test [] once h = absurd cc
entry_among test (e ∷ es) once h = go (test e) refl (entry_among test es once.1)
  where
    go : (b : Bool) → test e ≡ b → (list_any test es ≡ true → (key : SeriesKey) × (row : Row) × (lookup (key_eq key) es ≡ Some row) × (test (key, row) ≡ true))
        → (key : SeriesKey) × (row : Row) × (lookup (key_eq key) (e ∷ es) ≡ Some row) × (test (key, row) ≡ true)
    go true p later = (e.0, e.1, rw (key_itself e.0) refl, p)
    go false p later =
        let x = later (rw p at h) in
        let among : list_any (key_eq x.0) (keys_of es) ≡ true = sym (is_some-lookup (key_eq x.0) es) ∙ ap is_some x.2 in
        let apart : key_eq x.0 e.0 ≡ false = key_turned x.0 e.0 ∙ apart_from e.0 x.0 (keys_of es) once.0 among in
        (x.0, x.1, rw apart x.2, x.3)

-- the entry of a series passes a test
entry_passes : (test : SeriesKey × Row → Bool) (key : SeriesKey) (row : Row) (es : List (SeriesKey × Row)) → lookup (key_eq key) es ≡ Some row → test (key, row) ≡ true → list_any test es ≡ true
entry_passes test key row [] e h = absurd (none-some row e)
entry_passes test key row (x ∷ es) e h = go (key_eq key x.0) refl (entry_passes test key row es)
  where
    go : (b : Bool) → key_eq key x.0 ≡ b → (lookup (key_eq key) es ≡ Some row → test (key, row) ≡ true → list_any test es ≡ true) → list_any test (x ∷ es) ≡ true
    go true p later =
        let row_is : x.1 ≡ row = same_Some x.1 row (rw p at e) in
        let same : (key, row) ≡ x = λ i. (key_equal key x.0 p i, sym row_is i) in
        or_left (test x) (list_any test es) (subst (λ (y : SeriesKey × Row). test y ≡ true) same h)
    go false p later = or_right (test x) (list_any test es) (later (rw p at e) h)

-- ---- one page

-- a row that is missed for the first time is of a series that the page before had
missed_there : (t : Tracking) (k : Tracked) (past : List Scrape) (page : Page) → Tracks t k past → list_any (is_first_miss (is_read (filter is_kept_reading (all_readings page)))) k.rows ≡ true → lacks_some past page ≡ true
missed_there t k past page tracks h =
    let read = is_read (filter is_kept_reading (all_readings page)) in
    let e = entry_among (is_first_miss read) k.rows tracks.once h in
    let parts = and_parts (not (read e.0)) (e.1.age == 0) e.3 in
    let row = row_kept t e.0 past e.1 (sym (tracks.rows e.0) ∙ e.2) in
    let there : is_present e.0 (last_page past) ≡ true = sym (is_fresh t e.0 past e.1 row.1) ∙ parts.1 in
    let r = some_is (reading_at e.0 (last_page past)) there in
    let same : r.0.key ≡ e.0 = reading_is_of e.0 (scrape_of (last_page past) 0) r.0 r.1 in
    let absent : not (is_present e.0 page) ≡ true = ap not (sym (read_there e.0 (all_readings page) row.0)) ∙ parts.0 in
    found_passes (λ (q : Reading). key_eq e.0 q.key) (λ (q : Reading). has_points q.key.kind && not (is_present q.key page)) (all_readings (last_page past)) r.0 r.1
    (subst (λ (key : SeriesKey). (has_points key.kind && not (is_present key page)) ≡ true) (sym same) (both (has_points e.0.kind) (not (is_present e.0 page)) row.0 absent))

-- and such a series has a row that is missed for the first time
lacking_missed : (t : Tracking) (k : Tracked) (past : List Scrape) (page : Page) → Tracks t k past → lacks_some past page ≡ true → list_any (is_first_miss (is_read (filter is_kept_reading (all_readings page)))) k.rows ≡ true
lacking_missed t k past page tracks h =
    let read = is_read (filter is_kept_reading (all_readings page)) in
    let r = reading_among (λ (q : Reading). has_points q.key.kind && not (is_present q.key page)) (all_readings (last_page past)) h in
    let parts = and_parts (has_points r.0.key.kind) (not (is_present r.0.key page)) r.1 in
    let row = has_row t r.0.key past parts.0 r.2 in
    let fresh : (row.0.age == 0) ≡ true = is_fresh t r.0.key past row.0 (row_kept t r.0.key past row.0 row.1).1 ∙ r.2 in
    let absent : not (read r.0.key) ≡ true = ap not (read_there r.0.key (all_readings page) parts.0) ∙ parts.1 in
    entry_passes (is_first_miss read) r.0.key row.0 k.rows (tracks.rows r.0.key ∙ row.1) (both (not (read r.0.key)) (row.0.age == 0) absent fresh)

-- some row is missed for the first time just where the page lacks a series with points that the page before had
pub lacks_is : (t : Tracking) (k : Tracked) (past : List Scrape) (page : Page) → Tracks t k past → list_any (is_first_miss (is_read (filter is_kept_reading (all_readings page)))) k.rows ≡ lacks_some past page
lacks_is t k past page tracks =
    same_tests (list_any (is_first_miss (is_read (filter is_kept_reading (all_readings page)))) k.rows) (lacks_some past page) (missed_there t k past page tracks) (lacking_missed t k past page tracks)

-- ---- the loop over the rows

-- one row more, which was found or was missed
miss_passed : (keys : List SeriesKey) (rows : List Row) (found : List Bool) (now : SeriesKey → Bool) (at : ℕ) (key : SeriesKey) (row : Row) (before after mark : Bool)
    → slice_get keys at ≡ Some key → slice_get rows at ≡ Some row → found ≡ map now keys → mark ≡ get_or found at false
    → before ≡ list_any (is_first_miss now) (take at (zip keys rows)) → after ≡ (if mark then before else before || row.age == 0)
    → after ≡ list_any (is_first_miss now) (take (at + 1) (zip keys rows))
miss_passed keys rows found now at key row before after mark key_at row_at e mark_is b a =
    let marked : mark ≡ now key = mark_read keys found now at key mark key_at e mark_is in
    let entry_at : slice_get (zip keys rows) at ≡ Some (key, row) = both_at keys rows at key row key_at row_at in
    let within : at < length (zip keys rows) = slice_get_within (zip keys rows) at (key, row) entry_at in
    let entry : get_or (zip keys rows) at (key, row) ≡ (key, row) = get_or_from_slice_get (zip keys rows) at (key, row) (key, row) entry_at in
    let all : list_any (is_first_miss now) (take (at + 1) (zip keys rows)) ≡ (list_any (is_first_miss now) (take at (zip keys rows)) || is_first_miss now (key, row))
    = list_any_more (is_first_miss now) (zip keys rows) at (key, row) within ∙ ap (λ (x : SeriesKey × Row). list_any (is_first_miss now) (take at (zip keys rows)) || is_first_miss now x) entry in
    a ∙ (ap (λ (m : Bool). if m then before else before || row.age == 0) marked
    ∙ (by (now key) before (row.age == 0)
    ∙ (ap (λ (x : Bool). x || is_first_miss now (key, row)) b ∙ sym all)))
  where
    by : (m before new : Bool) → (if m then before else before || new) ≡ (before || (not m && new))
    by true true new = refl
    by true false new = refl
    by false before new = refl

pub miss_told : (keys : List SeriesKey) (rows rs : List Row) (found : List Bool) (now : SeriesKey → Bool) (at : ℕ) (row : Row) (before after next mark : Bool)
    → rs ≡ rows → at < length keys → at < length rows → row ≡ get_or rs at row → found ≡ map now keys → mark ≡ get_or found at false → mark ≡ false
    → before ≡ list_any (is_first_miss now) (take at (zip keys rows)) → next ≡ after → after ≡ (before || (get_or rs at row).age == 0)
    → next ≡ list_any (is_first_miss now) (take (at + 1) (zip keys rows))
miss_told keys rows rs found now at row before after next mark r in_keys in_rows row_is e mark_is unmarked b n a =
    let key = some_at keys at in_keys in
    miss_passed keys rows found now at key.0 row before next mark key.1 (slice_get_read rows (length rows) at row refl in_rows (row_is ∙ ap (λ (xs : List Row). get_or xs at row) r)) e mark_is b
    (n ∙ (a ∙ (ap (λ (x : Row). before || x.age == 0) (sym row_is) ∙ ap (λ (m : Bool). if m then before else before || row.age == 0) (sym unmarked))))

pub miss_kept : (keys : List SeriesKey) (rows : List Row) (found : List Bool) (now : SeriesKey → Bool) (at : ℕ) (before next mark : Bool)
    → at < length keys → at < length rows → found ≡ map now keys → mark ≡ get_or found at false → mark ≡ true
    → before ≡ list_any (is_first_miss now) (take at (zip keys rows)) → next ≡ before → next ≡ list_any (is_first_miss now) (take (at + 1) (zip keys rows))
miss_kept keys rows found now at before next mark in_keys in_rows e mark_is marked b n =
    let key = some_at keys at in_keys in
    let row = some_at rows at in_rows in
    miss_passed keys rows found now at key.0 row.0 before next mark key.1 row.1 e mark_is b
    (n ∙ ap (λ (m : Bool). if m then before else before || row.0.age == 0) (sym marked))
