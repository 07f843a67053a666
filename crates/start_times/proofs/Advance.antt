-- The rows that a page leaves stand for one scrape more.
use Rattle.std.proofs.Common.{◌≡◌, ℕ, zero, suc, ◌+◌, ◌<◌, Bool, true, false, ◌||◌, List, [], ◌∷◌, ◌++◌, map, zip, take, get_or, length, filter, find, cond, append_assoc, Option, Some, None, is_some, option_map, option_and_then, refl, sym, ap, subst, ◌∙◌, arith}
use Rattle.std.specs.Prelude.{slice_get, if◌then◌else◌}
use Rattle.std.specs.Option.{option_to_list}
use Rattle.std.specs.List.{list_any, IsDistinct, AllByRecursion, filter_map, cons_option}
use Rattle.std.specs.Map.{lookup, keys_of}
use Rattle.std.proofs.lemmas.List.{append-nil, map-append, take_more}
use Rattle.std.proofs.lemmas.List.Elements.{filter_map-append}
use Rattle.std.proofs.lemmas.Option.{same_Some, slice_get-map, slice_get_read, slice_get_within, get_or_from_slice_get}
use Rattle.std.proofs.lemmas.Map.Made.{is_some-lookup}
use Rattle.label_sets.specs.declared.series_key.SeriesKey.{SeriesKey}
use Rattle.label_sets.specs.Keys.{key_eq}
use Rattle.page_model.specs.declared.page.Reading.{Reading}
use Rattle.page_model.specs.declared.page.Page.{Page}
use Rattle.page_model.specs.Presence.{all_readings, reading_at, is_present}
use Rattle.start_times.specs.declared.row.Row.{Row}
use Rattle.start_times.specs.declared.row.Placed.{Placed}
use Rattle.start_times.specs.declared.sighting.Sighting.{Sighting}
use Rattle.start_times.specs.Scrapes.{Scrape}
use Rattle.start_times.specs.Starts.{Tracking, has_points, time_of, time_where, placed, reading_place}
use Rattle.start_times.specs.Rows.{Tracked, Tracks, kept_row, placed_beside, row_now, older_row}
use Rattle.start_times.specs.Filling.{Filled, with_entries}
use Rattle.start_times.specs.Sightings.{Saw, placed_in, sighted_entry, is_kept_reading, is_read, missed_entry}
use Rattle.start_times.specs.Advancing.{HasDistinctKeys, scrape_of}
use Rattle.start_times.proofs.RowLaws.{reading_is_of, row_is_enough, row_of_sight, row_of_miss, none_is, some_is}
use Rattle.start_times.proofs.Found.{key_equal, key_itself}

-- ---- look-ups

look_first : (key : SeriesKey) (xs ys : List (SeriesKey × Row)) (row : Row) → lookup (key_eq key) xs ≡ Some row → lookup (key_eq key) (xs ++ ys) ≡ Some row
look_first key [] ys row e = absurd cc
look_first key (x ∷ xs) ys row e = go (key_eq key x.0) refl (look_first key xs ys row)
  where
    go : (b : Bool) → key_eq key x.0 ≡ b → (lookup (key_eq key) xs ≡ Some row → lookup (key_eq key) (xs ++ ys) ≡ Some row) → lookup (key_eq key) (x ∷ xs ++ ys) ≡ Some row
    go true p later = rw p (rw p at e)
    go false p later = rw p (later (rw p at e))

look_second : (key : SeriesKey) (xs ys : List (SeriesKey × Row)) → lookup (key_eq key) xs ≡ None → lookup (key_eq key) (xs ++ ys) ≡ lookup (key_eq key) ys
look_second key [] ys e = refl
look_second key (x ∷ xs) ys e = go (key_eq key x.0) refl (look_second key xs ys)
  where
    go : (b : Bool) → key_eq key x.0 ≡ b → (lookup (key_eq key) xs ≡ None → lookup (key_eq key) (xs ++ ys) ≡ lookup (key_eq key) ys) → lookup (key_eq key) (x ∷ xs ++ ys) ≡ lookup (key_eq key) ys
    go true p later = absurd (let f : Some x.1 ≡ None = rw p at e in cc)
    go false p later = rw p (later (rw p at e))

-- the row that a reading makes
abbrev made : Bool → List (SeriesKey × Row) → ℕ → Reading → Row
made honor rows moment r = row_now (lookup (key_eq r.key) rows) (time_where honor moment r) r

-- among the rows that readings make is the one of the reading of a series
look_made : (honor : Bool) (rows : List (SeriesKey × Row)) (moment : ℕ) (key : SeriesKey) (rs : List Reading) → has_points key.kind ≡ true
    → lookup (key_eq key) (map (sighted_entry honor rows moment) (filter is_kept_reading rs)) ≡ option_map (made honor rows moment) (find (λ (r : Reading). key_eq key r.key) rs)
look_made honor rows moment key [] starting = refl
look_made honor rows moment key (r ∷ rs) starting = go (key_eq key r.key) refl (has_points r.key.kind) refl (look_made honor rows moment key rs starting)
  where
    go : (b : Bool) → key_eq key r.key ≡ b → (c : Bool) → has_points r.key.kind ≡ c
        → lookup (key_eq key) (map (sighted_entry honor rows moment) (filter is_kept_reading rs)) ≡ option_map (made honor rows moment) (find (λ (q : Reading). key_eq key q.key) rs)
        → lookup (key_eq key) (map (sighted_entry honor rows moment) (filter is_kept_reading (r ∷ rs))) ≡ option_map (made honor rows moment) (find (λ (q : Reading). key_eq key q.key) (r ∷ rs))
    go true p true q later = rw (q, p) refl
    go true p false q later = absurd (let t : has_points r.key.kind ≡ true = subst (λ (k : SeriesKey). has_points k.kind ≡ true) (key_equal key r.key p) starting in let f : true ≡ false = sym t ∙ q in cc)
    go false p true q later = rw (q, p) later
    go false p false q later = rw (q, p) later

-- of a series whose kind has no points none is made
look_unmade : (honor : Bool) (rows : List (SeriesKey × Row)) (moment : ℕ) (key : SeriesKey) (rs : List Reading) → has_points key.kind ≡ false → lookup (key_eq key) (map (sighted_entry honor rows moment) (filter is_kept_reading rs)) ≡ None
look_unmade honor rows moment key [] without = refl
look_unmade honor rows moment key (r ∷ rs) without = go (key_eq key r.key) refl (has_points r.key.kind) refl (look_unmade honor rows moment key rs without)
  where
    go : (b : Bool) → key_eq key r.key ≡ b → (c : Bool) → has_points r.key.kind ≡ c → lookup (key_eq key) (map (sighted_entry honor rows moment) (filter is_kept_reading rs)) ≡ None
        → lookup (key_eq key) (map (sighted_entry honor rows moment) (filter is_kept_reading (r ∷ rs))) ≡ None
    go true p true q later = absurd (let t : has_points r.key.kind ≡ false = subst (λ (k : SeriesKey). has_points k.kind ≡ false) (key_equal key r.key p) without in let f : false ≡ true = sym t ∙ q in cc)
    go b p false q later = rw q later
    go false p true q later = rw (q, p) later

-- a series whose kind has points is read just where the page has it
pub read_there : (key : SeriesKey) (rs : List Reading) → has_points key.kind ≡ true → is_read (filter is_kept_reading rs) key ≡ is_some (find (λ (r : Reading). key_eq key r.key) rs)
read_there key [] starting = refl
read_there key (r ∷ rs) starting = go (key_eq key r.key) refl (has_points r.key.kind) refl (read_there key rs starting)
  where
    go : (b : Bool) → key_eq key r.key ≡ b → (c : Bool) → has_points r.key.kind ≡ c → is_read (filter is_kept_reading rs) key ≡ is_some (find (λ (q : Reading). key_eq key q.key) rs)
        → is_read (filter is_kept_reading (r ∷ rs)) key ≡ is_some (find (λ (q : Reading). key_eq key q.key) (r ∷ rs))
    go true p true q later = rw (q, p) refl
    go true p false q later = absurd (let t : has_points r.key.kind ≡ true = subst (λ (k : SeriesKey). has_points k.kind ≡ true) (key_equal key r.key p) starting in let f : true ≡ false = sym t ∙ q in cc)
    go false p true q later = rw (q, p) later
    go false p false q later = rw (q, p) later

-- ---- rows that were missed

not_there : (key : SeriesKey) (es : List (SeriesKey × Row)) → AllByRecursion (λ y. key_eq key y ≡ false) (keys_of es) → lookup (key_eq key) es ≡ None
not_there key [] all = refl
not_there key (e ∷ es) all = rw all.0 (not_there key es all.1)

look_missed : (keep : ℕ) (now : SeriesKey → Bool) (key : SeriesKey) (es : List (SeriesKey × Row)) → IsDistinct key_eq (keys_of es)
    → lookup (key_eq key) (filter_map (missed_entry keep now) es) ≡ cond (now key) None (option_and_then (older_row keep) (lookup (key_eq key) es))
unfolding IsDistinct
look_missed keep now key [] once = nothing (now key)
  where
    nothing : (b : Bool) → ◌≡◌ {A = Option Row} None (cond b None None)
    nothing true = refl
    nothing false = refl
look_missed keep now key (e ∷ es) once = go (key_eq key e.0) refl (now e.0) refl (older_row keep e.1) refl (look_missed keep now key es once.1)
  where
    go : (b : Bool) → key_eq key e.0 ≡ b → (c : Bool) → now e.0 ≡ c → (o : Option Row) → older_row keep e.1 ≡ o
        → lookup (key_eq key) (filter_map (missed_entry keep now) es) ≡ cond (now key) None (option_and_then (older_row keep) (lookup (key_eq key) es))
        → lookup (key_eq key) (filter_map (missed_entry keep now) (e ∷ es)) ≡ cond (now key) None (option_and_then (older_row keep) (lookup (key_eq key) (e ∷ es)))
    go true p true q o k later =
        let seen : now key ≡ true = ap now (key_equal key e.0 p) ∙ q in
        rw (q, p, seen) (rw seen at later)
    go true p false q (Some row) k later =
        let seen : now key ≡ false = ap now (key_equal key e.0 p) ∙ q in
        rw (q, k, p, seen) (sym k)
    go true p false q None k later =
        let seen : now key ≡ false = ap now (key_equal key e.0 p) ∙ q in
        let none : lookup (key_eq key) es ≡ None = not_there key es (subst (λ (x : SeriesKey). AllByRecursion (λ y. key_eq x y ≡ false) (keys_of es)) (sym (key_equal key e.0 p)) once.0) in
        rw (q, k, p, seen) ((rw (seen, none) at later) ∙ sym k)
    go false p true q o k later = rw (q, p) later
    go false p false q (Some row) k later = rw (q, k, p) later
    go false p false q None k later = rw (q, k, p) later

-- ---- no series twice

all_of : (keys : List SeriesKey) (P : SeriesKey → Type 0) → ((key : SeriesKey) → list_any (key_eq key) keys ≡ true → P key) → AllByRecursion P keys
all_of [] P f = tt
all_of (k ∷ keys) P f = (f k (rw (key_itself k) refl), all_of keys P (λ key e. f key (behind (key_eq key k) (list_any (key_eq key) keys) e)))
  where
    behind : (a b : Bool) → b ≡ true → (a || b) ≡ true
    behind true b e = refl
    behind false b e = e

none_equal : (key : SeriesKey) (ys : List SeriesKey) → list_any (key_eq key) ys ≡ false → AllByRecursion (λ y. key_eq key y ≡ false) ys
none_equal key [] e = tt
none_equal key (y ∷ ys) e = go (key_eq key y) refl (none_equal key ys)
  where
    go : (b : Bool) → key_eq key y ≡ b → (list_any (key_eq key) ys ≡ false → AllByRecursion (λ z. key_eq key z ≡ false) ys) → AllByRecursion (λ z. key_eq key z ≡ false) (y ∷ ys)
    go true p later = absurd (let f : true ≡ false = rw p at e in cc)
    go false p later = (p, later (rw p at e))

both_all : (P : SeriesKey → Type 0) (xs ys : List SeriesKey) → AllByRecursion P xs → AllByRecursion P ys → AllByRecursion P (xs ++ ys)
both_all P [] ys a b = b
both_all P (x ∷ xs) ys a b = (a.0, both_all P xs ys a.1 b)

apart : (xs ys : List SeriesKey) → IsDistinct key_eq xs → IsDistinct key_eq ys → AllByRecursion (λ x. list_any (key_eq x) ys ≡ false) xs → IsDistinct key_eq (xs ++ ys)
unfolding IsDistinct
apart [] ys one two all = two
apart (x ∷ xs) ys one two all = (both_all (λ y. key_eq x y ≡ false) xs ys one.0 (none_equal x ys all.0), apart xs ys one.1 two all.1)

kept_all : (P : SeriesKey → Type 0) (rs : List Reading) → AllByRecursion P (map (λ (r : Reading). r.key) rs) → AllByRecursion P (map (λ (r : Reading). r.key) (filter is_kept_reading rs))
kept_all P [] all = tt
kept_all P (r ∷ rs) all = go (has_points r.key.kind) refl (kept_all P rs all.1)
  where
    go : (b : Bool) → has_points r.key.kind ≡ b → AllByRecursion P (map (λ (q : Reading). q.key) (filter is_kept_reading rs)) → AllByRecursion P (map (λ (q : Reading). q.key) (filter is_kept_reading (r ∷ rs)))
    go true e later = rw e (all.0, later)
    go false e later = rw e later

kept_once : (rs : List Reading) → IsDistinct key_eq (map (λ (r : Reading). r.key) rs) → IsDistinct key_eq (map (λ (r : Reading). r.key) (filter is_kept_reading rs))
unfolding IsDistinct
kept_once [] once = tt
kept_once (r ∷ rs) once = go (has_points r.key.kind) refl (kept_once rs once.1)
  where
    go : (b : Bool) → has_points r.key.kind ≡ b → IsDistinct key_eq (map (λ (q : Reading). q.key) (filter is_kept_reading rs)) → IsDistinct key_eq (map (λ (q : Reading). q.key) (filter is_kept_reading (r ∷ rs)))
    go true e later = rw e (kept_all (λ y. key_eq r.key y ≡ false) rs once.0, later)
    go false e later = rw e later

missed_all : (P : SeriesKey → Type 0) (keep : ℕ) (now : SeriesKey → Bool) (es : List (SeriesKey × Row)) → AllByRecursion P (keys_of es) → AllByRecursion P (keys_of (filter_map (missed_entry keep now) es))
missed_all P keep now [] all = tt
missed_all P keep now (e ∷ es) all = go (now e.0) refl (older_row keep e.1) refl (missed_all P keep now es all.1)
  where
    go : (c : Bool) → now e.0 ≡ c → (o : Option Row) → older_row keep e.1 ≡ o → AllByRecursion P (keys_of (filter_map (missed_entry keep now) es)) → AllByRecursion P (keys_of (filter_map (missed_entry keep now) (e ∷ es)))
    go true q o k later = rw q later
    go false q (Some row) k later = rw (q, k) (all.0, later)
    go false q None k later = rw (q, k) later

missed_once : (keep : ℕ) (now : SeriesKey → Bool) (es : List (SeriesKey × Row)) → IsDistinct key_eq (keys_of es) → IsDistinct key_eq (keys_of (filter_map (missed_entry keep now) es))
unfolding IsDistinct
missed_once keep now [] once = tt
missed_once keep now (e ∷ es) once = go (now e.0) refl (older_row keep e.1) refl (missed_once keep now es once.1)
  where
    go : (c : Bool) → now e.0 ≡ c → (o : Option Row) → older_row keep e.1 ≡ o → IsDistinct key_eq (keys_of (filter_map (missed_entry keep now) es)) → IsDistinct key_eq (keys_of (filter_map (missed_entry keep now) (e ∷ es)))
    go true q o k later = rw q later
    go false q (Some row) k later = rw (q, k) (missed_all (λ y. key_eq e.0 y ≡ false) keep now es once.0, later)
    go false q None k later = rw (q, k) later

sighted_keys : (honor : Bool) (rows : List (SeriesKey × Row)) (moment : ℕ) (rs : List Reading) → keys_of (map (sighted_entry honor rows moment) rs) ≡ map (λ (r : Reading). r.key) rs
sighted_keys honor rows moment [] = refl
sighted_keys honor rows moment (r ∷ rs) = ap (λ (ks : List SeriesKey). r.key ∷ ks) (sighted_keys honor rows moment rs)

-- ---- one scrape more

-- the rows behind a page: those of its readings, and those that it missed
abbrev pub rows_behind : Tracked → Page → ℕ → List (SeriesKey × Row)
rows_behind k page moment = map (sighted_entry k.honor k.rows moment) (filter is_kept_reading (all_readings page))
    ++ filter_map (missed_entry k.keep (is_read (filter is_kept_reading (all_readings page)))) k.rows

rows_once : (k : Tracked) (page : Page) (moment : ℕ) → IsDistinct key_eq (keys_of k.rows) → HasDistinctKeys page → IsDistinct key_eq (keys_of (rows_behind k page moment))
rows_once k page moment once distinct =
    let rs = filter is_kept_reading (all_readings page) in
    let fresh = map (sighted_entry k.honor k.rows moment) rs in
    let others = filter_map (missed_entry k.keep (is_read rs)) k.rows in
    let keys : keys_of fresh ≡ map (λ (r : Reading). r.key) rs = sighted_keys k.honor k.rows moment rs in
    let gone = λ (key : SeriesKey) (read : is_read rs key ≡ true). sym (is_some-lookup (key_eq key) others) ∙ ap is_some (look_missed k.keep (is_read rs) key k.rows once ∙ ap (λ (b : Bool). cond b None (option_and_then (older_row k.keep) (lookup (key_eq key) k.rows))) read) in
    let parts : IsDistinct key_eq (map (λ (r : Reading). r.key) rs ++ keys_of others)
    = apart (map (λ (r : Reading). r.key) rs) (keys_of others) (kept_once (all_readings page) distinct) (missed_once k.keep (is_read rs) k.rows once) (all_of (map (λ (r : Reading). r.key) rs) (λ x. list_any (key_eq x) (keys_of others) ≡ false) gone) in
    subst (IsDistinct key_eq) (sym (map-append (λ (e : SeriesKey × Row). e.0) fresh others ∙ ap (λ (ks : List SeriesKey). ks ++ keys_of others) keys)) parts

nothing_kept : (t : Tracking) (key : SeriesKey) (past : List Scrape) → has_points key.kind ≡ false → kept_row t key past ≡ None
unfolding kept_row
nothing_kept t key past e = rw e refl

no_row : (b : Bool) (keep : ℕ) (o : Option Row) → o ≡ None → cond b None (option_and_then (older_row keep) o) ≡ None
no_row true keep o e = refl
no_row false keep o e = rw e refl

-- the row that a reading makes beside what is kept is the one that stands for its scrape
row_made : (t : Tracking) (honor : Bool) (past : List Scrape) (moment : ℕ) (r : Reading) (o : Option Row) → honor ≡ t.honor → o ≡ kept_row t r.key past → row_now o (time_where honor moment r) r ≡ row_now (kept_row t r.key past) (time_of t moment r) r
row_made t honor past moment r o same e = ap (λ (b : Bool). row_now o (time_where b moment r) r) same ∙ ap (λ (x : Option Row). row_now x (time_of t moment r) r) e

rows_stand : (t : Tracking) (k : Tracked) (past : List Scrape) (page : Page) (moment : ℕ) → Tracks t k past → (key : SeriesKey) → lookup (key_eq key) (rows_behind k page moment) ≡ kept_row t key (scrape_of page moment ∷ past)
rows_stand t k past page moment tracks key = go (has_points key.kind) refl (is_present key page) refl
  where
    rs : List Reading
    rs = filter is_kept_reading (all_readings page)

    fresh : List (SeriesKey × Row)
    fresh = map (sighted_entry k.honor k.rows moment) rs

    others : List (SeriesKey × Row)
    others = filter_map (missed_entry k.keep (is_read rs)) k.rows

    go : (b : Bool) → has_points key.kind ≡ b → (c : Bool) → is_present key page ≡ c → lookup (key_eq key) (fresh ++ others) ≡ kept_row t key (scrape_of page moment ∷ past)
    go false e c p =
        look_second key fresh others (look_unmade k.honor k.rows moment key (all_readings page) e)
        ∙ (look_missed k.keep (is_read rs) key k.rows tracks.once
        ∙ (no_row (is_read rs key) k.keep (lookup (key_eq key) k.rows) (tracks.rows key ∙ nothing_kept t key past e)
        ∙ sym (nothing_kept t key (scrape_of page moment ∷ past) e)))
    go true e true p =
        let found = some_is (reading_at key page) p in
        let same = reading_is_of key (scrape_of page moment) found.0 found.1 in
        let row : row_now (kept_row t found.0.key past) (time_of t moment found.0) found.0 ≡ row_now (kept_row t key past) (time_of t moment found.0) found.0 = ap (λ (x : SeriesKey). row_now (kept_row t x past) (time_of t moment found.0) found.0) same in
        look_first key fresh others (row_now (kept_row t key past) (time_of t moment found.0) found.0)
        (look_made k.honor k.rows moment key (all_readings page) e ∙ (ap (option_map (made k.honor k.rows moment)) found.1 ∙ ap (λ (x : Row). Some x) (row_made t k.honor past moment found.0 (lookup (key_eq found.0.key) k.rows) tracks.honor (tracks.rows found.0.key) ∙ row)))
        ∙ sym (row_of_sight t (scrape_of page moment) past key found.0 e found.1)
    go true e false p =
        look_second key fresh others (look_made k.honor k.rows moment key (all_readings page) e ∙ ap (option_map (made k.honor k.rows moment)) (none_is (reading_at key page) p))
        ∙ (look_missed k.keep (is_read rs) key k.rows tracks.once
        ∙ (ap (λ (b : Bool). cond b None (option_and_then (older_row k.keep) (lookup (key_eq key) k.rows))) (read_there key (all_readings page) e ∙ p)
        ∙ (ap (λ (n : ℕ). option_and_then (older_row n) (lookup (key_eq key) k.rows)) tracks.keep
        ∙ (ap (option_and_then (older_row t.keep)) (tracks.rows key)
        ∙ sym (row_of_miss t (scrape_of page moment) past key p)))))

one_place : (t : Tracking) (k : Tracked) (past : List Scrape) (moment : ℕ) (r : Reading) → Tracks t k past → placed_in k.honor k.rows moment r ≡ reading_place t past moment r
unfolding placed_in reading_place
one_place t k past moment r tracks = by (has_points r.key.kind) refl
  where
    by : (b : Bool) → has_points r.key.kind ≡ b → cond b (Some (placed_beside (lookup (key_eq r.key) k.rows) (time_where k.honor moment r) r)) None ≡ cond b (Some (placed t past moment r)) None
    by false e = refl
    by true e = ap (λ (p : Placed). Some p) (ap (λ (x : Option Row). placed_beside x (time_where k.honor moment r) r) (tracks.rows r.key)
        ∙ (ap (λ (b : Bool). placed_beside (kept_row t r.key past) (time_where b moment r) r) tracks.honor ∙ sym (row_is_enough t past moment r e)))

-- what readings give beside the rows is what they give behind the past
places_stand : (t : Tracking) (k : Tracked) (past : List Scrape) (moment : ℕ) (rs : List Reading) → Tracks t k past → map (placed_in k.honor k.rows moment) rs ≡ map (reading_place t past moment) rs
places_stand t k past moment [] tracks = refl
places_stand t k past moment (r ∷ rs) tracks = rw (one_place t k past moment r tracks, places_stand t k past moment rs tracks) refl

-- a page that was seen, and the rows that it leaves
pub advanced : (t : Tracking) (k after : Tracked) (past : List Scrape) (page : Page) (moment : ℕ) (starts : List (Option Placed)) (s : Sighting) → Tracks t k past → HasDistinctKeys page → Saw k.honor k.rows moment (all_readings page) s
    → starts ≡ s.starts.items → after.keep ≡ k.keep → after.honor ≡ k.honor → after.rows ≡ s.entries.list ++ filter_map (missed_entry k.keep (is_read (filter is_kept_reading (all_readings page)))) k.rows
    → (starts ≡ map (reading_place t past moment) (all_readings page)) × Tracks t after (scrape_of page moment ∷ past)
advanced t k after past page moment starts s tracks distinct saw is keep honor rows =
    let all : after.rows ≡ rows_behind k page moment = rows ∙ ap (λ (es : List (SeriesKey × Row)). es ++ filter_map (missed_entry k.keep (is_read (filter is_kept_reading (all_readings page)))) k.rows) (ap (λ (f : Filled). f.list) saw.entries) in (
      is ∙ (saw.starts ∙ places_stand t k past moment (all_readings page) tracks),
      record {
        keep = keep ∙ tracks.keep;
        honor = honor ∙ tracks.honor;
        rows = λ key. ap (lookup (key_eq key)) all ∙ rows_stand t k past page moment tracks key;
        once = subst (λ (es : List (SeriesKey × Row)). IsDistinct key_eq (keys_of es)) (sym all) (rows_once k page moment tracks.once distinct);
      },
    )

-- ---- the loop over the rows

pub both_at : (keys : List SeriesKey) (rows : List Row) (at : ℕ) (key : SeriesKey) (row : Row) → slice_get keys at ≡ Some key → slice_get rows at ≡ Some row → slice_get (zip keys rows) at ≡ Some (key, row)
both_at [] rows at key row k r = absurd cc
both_at (x ∷ keys) [] at key row k r = absurd cc
both_at (x ∷ keys) (y ∷ rows) zero key row k r = let a : x ≡ key = same_Some x key k in let b : y ≡ row = same_Some y row r in rw (a, b) refl
both_at (x ∷ keys) (y ∷ rows) (suc at) key row k r = both_at keys rows at key row k r

one_listed : {A : Type 0} (o : Option A) → cons_option o [] ≡ option_to_list o
one_listed None = refl
one_listed (Some x) = refl

-- there is a value at each place of a list
pub some_at : {A : Type 0} (xs : List A) (at : ℕ) → at < length xs → (x : A) × (slice_get xs at ≡ Some x)
some_at [] at lt = absurd (omega arith)
some_at (x ∷ xs) zero lt = (x, refl)
some_at (x ∷ xs) (suc at) lt = some_at xs at (omega arith)

-- the mark of a row says whether its series is present
pub mark_read : (keys : List SeriesKey) (found : List Bool) (now : SeriesKey → Bool) (at : ℕ) (key : SeriesKey) (mark : Bool) → slice_get keys at ≡ Some key → found ≡ map now keys → mark ≡ get_or found at false → mark ≡ now key
mark_read keys found now at key mark key_at e mark_is =
    mark_is ∙ (ap (λ (bs : List Bool). get_or bs at false) e ∙ get_or_from_slice_get (map now keys) at (now key) false (slice_get-map now keys at ∙ ap (option_map now) key_at))

-- one row more, which was found or was missed
pub row_passed : (keep : ℕ) (keys : List SeriesKey) (rows : List Row) (found : List Bool) (now : SeriesKey → Bool) (at : ℕ) (key : SeriesKey) (row : Row) (start before after : Filled) (mark : Bool)
    → slice_get keys at ≡ Some key → slice_get rows at ≡ Some row → found ≡ map now keys → mark ≡ get_or found at false
    → before ≡ with_entries start (filter_map (missed_entry keep now) (take at (zip keys rows))) → after ≡ with_entries before (if mark then [] else option_to_list (missed_entry keep (λ _. false) (key, row)))
    → after ≡ with_entries start (filter_map (missed_entry keep now) (take (at + 1) (zip keys rows)))
row_passed keep keys rows found now at key row start before after mark key_at row_at e mark_is b a =
    let marked : mark ≡ now key = mark_read keys found now at key mark key_at e mark_is in
    let entry_at : slice_get (zip keys rows) at ≡ Some (key, row) = both_at keys rows at key row key_at row_at in
    let within : at < length (zip keys rows) = slice_get_within (zip keys rows) at (key, row) entry_at in
    let entry : get_or (zip keys rows) at (key, row) ≡ (key, row) = get_or_from_slice_get (zip keys rows) at (key, row) (key, row) entry_at in
    let more : take (at + 1) (zip keys rows) ≡ take at (zip keys rows) ++ (key, row) ∷ [] = take_more (zip keys rows) at (key, row) within ∙ ap (λ (x : SeriesKey × Row). take at (zip keys rows) ++ x ∷ []) entry in
    let test = missed_entry keep now in
    let all : filter_map test (take (at + 1) (zip keys rows)) ≡ filter_map test (take at (zip keys rows)) ++ option_to_list (test (key, row))
    = ap (filter_map test) more ∙ (filter_map-append test (take at (zip keys rows)) ((key, row) ∷ []) ∙ ap (λ (es : List (SeriesKey × Row)). filter_map test (take at (zip keys rows)) ++ es) (one_listed (test (key, row)))) in
    a ∙ (ap (λ (m : Bool). with_entries before (if m then [] else option_to_list (missed_entry keep (λ _. false) (key, row)))) marked
    ∙ (ap (with_entries before) (by (now key) refl)
    ∙ (ap (λ (f : Filled). with_entries f (option_to_list (test (key, row)))) b
    ∙ (ap (λ (es : List (SeriesKey × Row)). record { before = start.before; list = es }) (append_assoc start.list (filter_map test (take at (zip keys rows))) (option_to_list (test (key, row))))
    ∙ ap (with_entries start) (sym all)))))
  where
    by : (m : Bool) → now key ≡ m → (if now key then [] else option_to_list (missed_entry keep (λ _. false) (key, row))) ≡ option_to_list (missed_entry keep now (key, row))
    by true p = rw p refl
    by false p = rw p refl

pub row_missed : (keep : ℕ) (keys ks : List SeriesKey) (rows rs : List Row) (found : List Bool) (now : SeriesKey → Bool) (at : ℕ) (key : SeriesKey) (row : Row) (start before after next : Filled) (mark : Bool)
    → ks ≡ keys → rs ≡ rows → at < length keys → at < length rows → key ≡ get_or ks at key → row ≡ get_or rs at row → found ≡ map now keys → mark ≡ get_or found at false → mark ≡ false
    → before ≡ with_entries start (filter_map (missed_entry keep now) (take at (zip keys rows))) → next ≡ after → start.before ≡ keys → (slice_get before.before at ≡ Some key → after ≡ with_entries before (option_to_list (missed_entry keep (λ _. false) (key, row))))
    → next ≡ with_entries start (filter_map (missed_entry keep now) (take (at + 1) (zip keys rows)))
row_missed keep keys ks rows rs found now at key row start before after next mark k r in_keys in_rows key_is row_is e mark_is unmarked b n same a =
    let key_at : slice_get keys at ≡ Some key = slice_get_read keys (length keys) at key refl in_keys (key_is ∙ ap (λ (xs : List SeriesKey). get_or xs at key) k) in
    let there : slice_get before.before at ≡ Some key = ap (λ (ks : List SeriesKey). slice_get ks at) (ap (λ (f : Filled). f.before) b ∙ same) ∙ key_at in
    row_passed keep keys rows found now at key row start before next mark key_at (slice_get_read rows (length rows) at row refl in_rows (row_is ∙ ap (λ (xs : List Row). get_or xs at row) r)) e mark_is b
    (n ∙ (a there ∙ ap (λ (m : Bool). with_entries before (if m then [] else option_to_list (missed_entry keep (λ _. false) (key, row)))) (sym unmarked)))

pub row_marked : (keep : ℕ) (keys : List SeriesKey) (rows : List Row) (found : List Bool) (now : SeriesKey → Bool) (at : ℕ) (start before next : Filled) (mark : Bool)
    → at < length keys → at < length rows → found ≡ map now keys → mark ≡ get_or found at false → mark ≡ true
    → before ≡ with_entries start (filter_map (missed_entry keep now) (take at (zip keys rows))) → next ≡ before → next ≡ with_entries start (filter_map (missed_entry keep now) (take (at + 1) (zip keys rows)))
row_marked keep keys rows found now at start before next mark in_keys in_rows e mark_is marked b n =
    let key = some_at keys at in_keys in
    let row = some_at rows at in_rows in
    row_passed keep keys rows found now at key.0 row.0 start before next mark key.1 row.1 e mark_is b
    (n ∙ (sym (ap (λ (es : List (SeriesKey × Row)). record { before = before.before; list = es }) (append-nil before.list)) ∙ ap (λ (m : Bool). with_entries before (if m then [] else option_to_list (missed_entry keep (λ _. false) (key.0, row.0)))) (sym marked)))
