-- Each series that is gone is told once; and where times of the page don't count, those that are gone are the ones that the page now lacks.
use Rattle.std.proofs.Common.{◌≡◌, ℕ, suc, ◌+◌, Bool, true, false, cond, not, ◌&&◌, List, [], ◌∷◌, ◌++◌, map, find, filter, Option, Some, None, is_some, refl, sym, ap, subst, ◌∙◌, arith}
use Rattle.std.specs.Prelude.{is_none}
use Rattle.std.specs.List.{IsDistinct, AllByRecursion}
use Rattle.label_sets.specs.declared.series_key.SeriesKey.{SeriesKey}
use Rattle.label_sets.specs.Keys.{key_eq}
use Rattle.label_sets.specs.Lists.{some_passes}
use Rattle.label_sets.proofs.Laws.{key_decides}
use Rattle.page_model.specs.declared.page.Reading.{Reading}
use Rattle.page_model.specs.declared.page.Page.{Page}
use Rattle.page_model.specs.Presence.{all_readings, reading_at, is_present}
use Rattle.start_times.specs.Starts.{Tracking, has_points, own_time}
use Rattle.staleness.specs.Vanished.{times, is_gone, is_untimed, keys_gone, times_told, GoneOnce, GoneWithoutOwnTimes, OnceBetweenSightings}

-- the keys of readings that pass a test
abbrev keys_with : (Reading → Bool) → List Reading → List SeriesKey
keys_with test rs = map (λ (r : Reading). r.key) (filter test rs)

-- the reading of a series among these, where there is one
abbrev read_in : SeriesKey → List Reading → Option Reading
read_in key rs = find (λ (r : Reading). key_eq key r.key) rs

-- a key that none of these is equal to is not counted
none_counted : (key x : SeriesKey) (test : Reading → Bool) (rs : List Reading) → key_eq key x ≡ true → AllByRecursion (λ y. key_eq x y ≡ false) (map (λ (r : Reading). r.key) rs) → times key (keys_with test rs) ≡ 0
none_counted key x test [] e all = refl
none_counted key x test (r ∷ rs) e all = go (test r) refl (none_counted key x test rs e all.1)
  where
    apart : key_eq key r.key ≡ false
    apart = subst (λ z. key_eq z r.key ≡ false) (sym ((key_decides key x).0 e)) all.0

    go : (b : Bool) → test r ≡ b → times key (keys_with test rs) ≡ 0 → times key (keys_with test (r ∷ rs)) ≡ 0
    go false p later = rw p later
    go true p later = rw (p, apart) later

counted : (key : SeriesKey) (test : Reading → Bool) (rs : List Reading) → IsDistinct key_eq (map (λ (r : Reading). r.key) rs) → times key (keys_with test rs) ≡ cond (some_passes test (read_in key rs)) 1 0
unfolding IsDistinct
counted key test [] once = refl
counted key test (r ∷ rs) once = go (key_eq key r.key) refl (test r) refl (counted key test rs once.1)
  where
    go : (b : Bool) → key_eq key r.key ≡ b → (c : Bool) → test r ≡ c → times key (keys_with test rs) ≡ cond (some_passes test (read_in key rs)) 1 0
        → times key (keys_with test (r ∷ rs)) ≡ cond (some_passes test (read_in key (r ∷ rs))) 1 0
    go false p false q later = rw (p, q) later
    go false p true q later = rw (p, q, p) later
    go true p false q later = rw (p, q) (none_counted key r.key test rs p once.0)
    go true p true q later =
        let none : times key (keys_with test rs) ≡ 0 = none_counted key r.key test rs p once.0 in
        rw (p, q, p) (ap suc none)

pub gone_once : GoneOnce
gone_once t before now key once = counted key (is_gone t now) (all_readings before) once

-- ---- several pages

-- a series that the page before lacks is not told
none_told : (key : SeriesKey) (test : Reading → Bool) (rs : List Reading) → is_some (read_in key rs) ≡ false → times key (keys_with test rs) ≡ 0
none_told key test [] e = refl
none_told key test (r ∷ rs) e = go (key_eq key r.key) refl (test r) refl (none_told key test rs)
  where
    go : (b : Bool) → key_eq key r.key ≡ b → (c : Bool) → test r ≡ c → (is_some (read_in key rs) ≡ false → times key (keys_with test rs) ≡ 0) → times key (keys_with test (r ∷ rs)) ≡ 0
    go true p c q later = absurd (let f : true ≡ false = rw p at e in cc)
    go false p true q later = rw (q, p) (later (rw p at e))
    go false p false q later = rw q (later (rw p at e))

none_between : (t : Tracking) (key : SeriesKey) (before : Page) (missing : List Page) (last : Page) → is_present key before ≡ false → AllByRecursion (λ (page : Page). is_present key page ≡ false) missing → times_told t key before (missing ++ last ∷ []) ≡ 0
none_between t key before [] last e all =
    let here : times key (keys_gone t before last) ≡ 0 = none_told key (is_gone t last) (all_readings before) e in
    omega arith
none_between t key before (now ∷ missing) last e all =
    let here : times key (keys_gone t before now) ≡ 0 = none_told key (is_gone t now) (all_readings before) e in
    let later : times_told t key now (missing ++ last ∷ []) ≡ 0 = none_between t key now missing last all.0 all.1 in
    omega arith

-- the reading that is found of a series is of it
found_is_of : (key : SeriesKey) (rs : List Reading) (r : Reading) → read_in key rs ≡ Some r → r.key ≡ key
found_is_of key [] r e = absurd cc
found_is_of key (q ∷ rs) r e = go (key_eq key q.key) refl e (found_is_of key rs r)
  where
    go : (b : Bool) → key_eq key q.key ≡ b → cond b (Some q) (read_in key rs) ≡ Some r → (read_in key rs ≡ Some r → r.key ≡ key) → r.key ≡ key
    go true p f later = let same : q ≡ r = cc in sym (ap (λ (x : Reading). x.key) same) ∙ sym ((key_decides key q.key).0 p)
    go false p f later = later f

true_both : (b : Bool) → (true && b && not false) ≡ b
true_both true = refl
true_both false = refl

-- where the next page lacks a series with points, it is told but for a time of its own
told_untimed : (t : Tracking) (key : SeriesKey) (rs : List Reading) (next : Page) → has_points key.kind ≡ true → is_present key next ≡ false → some_passes (is_gone t next) (read_in key rs) ≡ some_passes (is_untimed t) (read_in key rs)
told_untimed t key rs next points gone = by (read_in key rs) refl
  where
    by : (o : Option Reading) → read_in key rs ≡ o → some_passes (is_gone t next) o ≡ some_passes (is_untimed t) o
    by None e = refl
    by (Some r) e =
        let own : r.key ≡ key = found_is_of key rs r e in
        (λ i. has_points (own i).kind && is_none (own_time t r) && not (is_present (own i) next)) ∙ (λ i. points i && is_none (own_time t r) && not (gone i)) ∙ true_both (is_none (own_time t r))

none_more : (a b n : ℕ) → a ≡ n → b ≡ 0 → a + b ≡ n
none_more a b n e f = omega (arith, e, f)

pub once_between_sightings : OnceBetweenSightings
once_between_sightings t key first next missing last once points gone missed =
    let told : times key (keys_gone t first next) ≡ cond (some_passes (is_untimed t) (reading_at key first)) 1 0 =
    gone_once t first next key once ∙ ap (λ (b : Bool). cond b 1 0) (told_untimed t key (all_readings first) next points gone) in
    none_more (times key (keys_gone t first next)) (times_told t key next (missing ++ last ∷ [])) (cond (some_passes (is_untimed t) (reading_at key first)) 1 0) told (none_between t key next missing last gone missed)

-- ---- where times of the page don't count

-- the keys that the page lacks
abbrev lacks : Page → SeriesKey → Bool
lacks now key = has_points key.kind && not (is_present key now)

without_own : (t : Tracking) (now : Page) (rs : List Reading) → t.honor ≡ false → keys_with (is_gone t now) rs ≡ filter (lacks now) (map (λ (r : Reading). r.key) rs)
without_own t now [] off = refl
without_own t now (r ∷ rs) off = go (lacks now r.key) refl (without_own t now rs off)
  where
    same : (b : Bool) → is_none (own_time t r) ≡ true → (b && is_none (own_time t r)) ≡ b
    same true e = e
    same false e = refl

    none : is_none (own_time t r) ≡ true
    none = rw off refl

    test : is_gone t now r ≡ lacks now r.key
    test = ap (λ b. b && not (is_present r.key now)) (same (has_points r.key.kind) none)

    go : (b : Bool) → lacks now r.key ≡ b → keys_with (is_gone t now) rs ≡ filter (lacks now) (map (λ (q : Reading). q.key) rs) → keys_with (is_gone t now) (r ∷ rs) ≡ filter (lacks now) (map (λ (q : Reading). q.key) (r ∷ rs))
    go true p later = rw (test, p) (ap (λ ks. r.key ∷ ks) later)
    go false p later = rw (test, p) later

pub gone_without_own_times : GoneWithoutOwnTimes
gone_without_own_times t before now off = without_own t now (all_readings before) off
