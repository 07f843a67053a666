-- The rows are at most `keep + 1` times the most readings of a page.
use Rattle.std.proofs.Common.{◌≡◌, ℕ, zero, suc, ◌+◌, ◌*◌, ◌≤◌, Bool, true, false, not, ◌||◌, List, [], ◌∷◌, ◌++◌, map, take, find, filter, length, max, None, is_some, refl, sym, ap, subst, ◌∙◌, arith, length-append}
use Rattle.std.specs.List.{IsDistinct, AllByRecursion, list_any}
use Rattle.std.specs.Map.{keys_of}
use Rattle.std.proofs.lemmas.List.{length-map, length-take}
use Rattle.start_times.proofs.RowLaws.{too_old}
use Rattle.std.proofs.lemmas.List.Folds.{list_any-append}
use Rattle.std.proofs.lemmas.Map.Made.{is_some-lookup}
use Rattle.std.proofs.lemmas.Bool.{or_left, or_right}
use Rattle.label_sets.specs.declared.series_key.SeriesKey.{SeriesKey}
use Rattle.label_sets.specs.Keys.{key_eq}
use Rattle.page_model.specs.declared.page.Reading.{Reading}
use Rattle.page_model.specs.Presence as presence
use Rattle.page_model.specs.Presence.{all_readings, is_present}
use Rattle.start_times.specs.Scrapes.{Scrape}
use Rattle.start_times.specs.Starts.{Tracking, has_points}
use Rattle.start_times.specs.Rows.{row_behind, kept_row, reading_count, most_readings}
use Rattle.start_times.specs.Laws.{RowsAreFew}
use Rattle.start_times.proofs.Found.{key_equal, key_itself}

-- ---- distinct keys that all stand in a list are no more than the list

unfoldable pub others : SeriesKey → List SeriesKey → List SeriesKey
others x ys = filter (λ y. not (key_eq x y)) ys

no_more : (x : SeriesKey) (zs : List SeriesKey) → length (others x zs) ≤ length zs
unfolding others
no_more x [] = omega arith
no_more x (z ∷ zs) = go (key_eq x z) refl (no_more x zs)
  where
    go : (b : Bool) → key_eq x z ≡ b → length (others x zs) ≤ length zs → length (others x (z ∷ zs)) ≤ length (z ∷ zs)
    go true p i = rw p (omega arith)
    go false p i = rw p (omega arith)

fewer : (x : SeriesKey) (ys : List SeriesKey) → list_any (key_eq x) ys ≡ true → length (others x ys) + 1 ≤ length ys
unfolding others
fewer x [] h = absurd cc
fewer x (y ∷ ys) h = go (key_eq x y) refl (no_more x ys) (fewer x ys)
  where
    go : (b : Bool) → key_eq x y ≡ b → length (others x ys) ≤ length ys → (list_any (key_eq x) ys ≡ true → length (others x ys) + 1 ≤ length ys) → length (others x (y ∷ ys)) + 1 ≤ length (y ∷ ys)
    go true p i later = rw p (omega arith)
    go false p i later = rw p (let k = later (rw p at h) in omega arith)

pub still_there : (x k : SeriesKey) (ys : List SeriesKey) → key_eq x k ≡ false → list_any (key_eq k) ys ≡ true → list_any (key_eq k) (others x ys) ≡ true
unfolding others
still_there x k [] apart h = absurd cc
still_there x k (y ∷ ys) apart h = go (key_eq x y) refl (key_eq k y) refl (still_there x k ys apart)
  where
    go : (b : Bool) → key_eq x y ≡ b → (c : Bool) → key_eq k y ≡ c → (list_any (key_eq k) ys ≡ true → list_any (key_eq k) (others x ys) ≡ true) → list_any (key_eq k) (others x (y ∷ ys)) ≡ true
    go true p true q later = absurd (let e : x ≡ k = key_equal x y p ∙ sym (key_equal k y q) in let f : key_eq x x ≡ false = subst (λ z. key_eq x z ≡ false) (sym e) apart in let g : true ≡ false = sym (key_itself x) ∙ f in cc)
    go true p false q later = rw p (later (rw q at h))
    go false p true q later = rw (p, q) refl
    go false p false q later = rw (p, q) (later (rw q at h))

pub apart_from : (x k : SeriesKey) (xs : List SeriesKey) → AllByRecursion (λ y. key_eq x y ≡ false) xs → list_any (key_eq k) xs ≡ true → key_eq x k ≡ false
apart_from x k [] all h = absurd cc
apart_from x k (y ∷ ys) all h = go (key_eq k y) refl (apart_from x k ys all.1)
  where
    go : (b : Bool) → key_eq k y ≡ b → (list_any (key_eq k) ys ≡ true → key_eq x k ≡ false) → key_eq x k ≡ false
    go true p later = subst (λ z. key_eq x z ≡ false) (sym (key_equal k y p)) all.0
    go false p later = later (rw p at h)

in_rest : (x k : SeriesKey) (xs : List SeriesKey) → list_any (key_eq k) xs ≡ true → list_any (key_eq k) (x ∷ xs) ≡ true
in_rest x k xs h = go (key_eq k x)
  where
    go : (b : Bool) → (b || list_any (key_eq k) xs) ≡ true
    go true = refl
    go false = h

pub no_more_than : (xs ys : List SeriesKey) → IsDistinct key_eq xs → ((k : SeriesKey) → list_any (key_eq k) xs ≡ true → list_any (key_eq k) ys ≡ true) → length xs ≤ length ys
unfolding IsDistinct
no_more_than [] ys once there = omega arith
no_more_than (x ∷ xs) ys once there =
    let first : list_any (key_eq x) ys ≡ true = there x (rw (key_itself x) refl) in
    let few = fewer x ys first in
    let rest = no_more_than xs (others x ys) once.1 (λ k h. still_there x k ys (apart_from x k xs once.0 h) (there k (in_rest x k xs h))) in
    omega arith

-- ---- the keys of the scrapes that count

-- the keys of these scrapes
unfoldable pub seen_keys : List Scrape → List SeriesKey
seen_keys [] = []
seen_keys (s ∷ past) = presence.keys_of s.page ++ seen_keys past

grows : (k m r : ℕ) → k * m ≤ k * max r m
grows zero m r = omega arith
grows (suc k) m r = let i = grows k m r in omega arith

seen_few : (past : List Scrape) (n : ℕ) → length past ≤ n → length (seen_keys past) ≤ n * most_readings past
unfolding seen_keys
seen_few [] n h = omega arith
seen_few (s ∷ past) zero h = absurd (omega arith)
seen_few (s ∷ past) (suc n) h =
    let rest = seen_few past n (omega arith) in
    let len : length (presence.keys_of s.page) ≡ reading_count s.page = length-map (all_readings s.page) (λ (r : Reading). r.key) in
    let more : n * most_readings past ≤ n * most_readings (s ∷ past) = grows n (most_readings past) (reading_count s.page) in
    rw (length-append (presence.keys_of s.page) (seen_keys past)) (omega arith)

present_there : (key : SeriesKey) (rs : List Reading) → is_some (find (λ (r : Reading). key_eq key r.key) rs) ≡ true → list_any (key_eq key) (map (λ (r : Reading). r.key) rs) ≡ true
present_there key [] h = absurd cc
present_there key (r ∷ rs) h = go (key_eq key r.key) refl (present_there key rs)
  where
    go : (b : Bool) → key_eq key r.key ≡ b → (is_some (find (λ (q : Reading). key_eq key q.key) rs) ≡ true → list_any (key_eq key) (map (λ (q : Reading). q.key) rs) ≡ true)
        → list_any (key_eq key) (map (λ (q : Reading). q.key) (r ∷ rs)) ≡ true
    go true p later = rw p refl
    go false p later = rw p (later (rw p at h))

row_seen : (t : Tracking) (key : SeriesKey) (past : List Scrape) (age n : ℕ) → age + n ≡ t.keep + 1 → is_some (row_behind t key age past) ≡ true → list_any (key_eq key) (seen_keys (take n past)) ≡ true
unfolding seen_keys
row_seen t key [] age n e h = absurd cc
row_seen t key (s ∷ past) age zero e h = absurd (let none : row_behind t key age (s ∷ past) ≡ None = too_old t key (s ∷ past) age (omega arith) in let f : false ≡ true = rw none at h in cc)
row_seen t key (s ∷ past) age (suc n) e h = go (is_present key s.page) refl (row_seen t key past (age + 1) n (omega arith))
  where
    go : (b : Bool) → is_present key s.page ≡ b → (is_some (row_behind t key (age + 1) past) ≡ true → list_any (key_eq key) (seen_keys (take n past)) ≡ true) → list_any (key_eq key) (presence.keys_of s.page ++ seen_keys (take n past)) ≡ true
    go true p later = rw (list_any-append (key_eq key) (presence.keys_of s.page) (seen_keys (take n past))) (or_left (list_any (key_eq key) (presence.keys_of s.page)) (list_any (key_eq key) (seen_keys (take n past))) (present_there key (all_readings s.page) p))
    go false p later = rw (list_any-append (key_eq key) (presence.keys_of s.page) (seen_keys (take n past))) (or_right (list_any (key_eq key) (presence.keys_of s.page)) (list_any (key_eq key) (seen_keys (take n past))) (later (rw p at h)))

-- a row that is kept is one of a series that one of the scrapes that count has
pub kept_seen : (t : Tracking) (key : SeriesKey) (past : List Scrape) → is_some (kept_row t key past) ≡ true → list_any (key_eq key) (seen_keys (take (t.keep + 1) past)) ≡ true
unfolding kept_row
kept_seen t key past h = go (has_points key.kind) refl
  where
    go : (b : Bool) → has_points key.kind ≡ b → list_any (key_eq key) (seen_keys (take (t.keep + 1) past)) ≡ true
    go true p = row_seen t key past 0 (t.keep + 1) (omega arith) (rw p at h)
    go false p = absurd (let f : false ≡ true = rw p at h in cc)

pub rows_are_few : RowsAreFew
rows_are_few t k past tracks =
    let keys = keys_of k.rows in
    let there = λ (key : SeriesKey) (h : list_any (key_eq key) keys ≡ true).
    kept_seen t key past (ap is_some (sym (tracks.rows key)) ∙ is_some-lookup (key_eq key) k.rows ∙ h) in
    let few = no_more_than keys (seen_keys (take (t.keep + 1) past)) tracks.once there in
    let some = seen_few (take (t.keep + 1) past) (t.keep + 1) (omega (arith, length-take (t.keep + 1) past)) in
    let len : length keys ≡ length k.rows = length-map k.rows (λ e. e.0) in
    omega arith
