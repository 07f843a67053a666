-- A page lacks a series just where its key is not among those of the page.
use Rattle.std.proofs.Common.{◌≡◌, ℕ, Bool, true, false, cond, not, ◌&&◌, List, [], ◌∷◌, ◌++◌, map, filter, find, Option, Some, None, is_some, refl, sym, ap, subst, ◌∙◌}
use Rattle.std.specs.Prelude.{Result, Ok, Err, IfOk, is_none}
use Rattle.std.specs.List.{list_any, IsDistinct, AllByRecursion}
use Rattle.std.proofs.lemmas.Bool.{and_parts, or_parts}
use Rattle.std.proofs.lemmas.List.{append-nil, map-append}
use Rattle.std.proofs.lemmas.List.Elements.{filter-append}
use Rattle.label_sets.specs.declared.series_key.SeriesKey.{SeriesKey}
use Rattle.label_sets.specs.Keys.{key_eq}
use Rattle.page_model.specs.declared.page.Reading.{Reading}
use Rattle.page_model.specs.declared.page.Page.{Page}
use Rattle.page_model.specs.Presence as presence
use Rattle.page_model.specs.Presence.{all_readings, is_present}
use Rattle.packed_keys.specs.Partings.{IsParted}
use Rattle.packed_keys.proofs.Laws.{gone_of_parted}
use Rattle.start_times.specs.Scrapes.{Scrape, last_page}
use Rattle.start_times.specs.Starts.{Tracking, has_points, own_time}
use Rattle.start_times.specs.Advancing.{lacks_some}
use Rattle.staleness.specs.Vanished.{has_own_time, untimed_keys, is_lacking, is_gone, keys_gone}

-- ---- keys without times of their own

-- a reading with such a time is passed over
pub passed_over : (honor : Bool) (r : Reading) (keys : List SeriesKey) (b : Bool) → b ≡ has_own_time honor r → b ≡ true → keys ≡ keys ++ untimed_keys honor (r ∷ [])
passed_over honor r keys true e t = rw (← e) (sym (append-nil keys))
passed_over honor r keys false e t = absurd cc

-- another is put behind
pub put_behind : (honor : Bool) (r : Reading) (keys : List SeriesKey) (b : Bool) → b ≡ has_own_time honor r → b ≡ false → keys ++ r.key ∷ [] ≡ keys ++ untimed_keys honor (r ∷ [])
put_behind honor r keys false e t = rw (← e) refl
put_behind honor r keys true e t = absurd cc

pub untimed-append : (honor : Bool) (front rest : List Reading) → untimed_keys honor (front ++ rest) ≡ untimed_keys honor front ++ untimed_keys honor rest
untimed-append honor front rest =
    ap (map (λ (r : Reading). r.key)) (filter-append (λ (r : Reading). not (has_own_time honor r)) front rest)
    ∙ map-append (λ (r : Reading). r.key) (filter (λ (r : Reading). not (has_own_time honor r)) front) (filter (λ (r : Reading). not (has_own_time honor r)) rest)

-- where times of the page don't count, these are all keys
all_untimed : (rs : List Reading) → untimed_keys false rs ≡ map (λ (r : Reading). r.key) rs
unfolding has_own_time
all_untimed [] = refl
all_untimed (r ∷ rs) = ap (λ ks. r.key ∷ ks) (all_untimed rs)

-- the readings that pass a test are of distinct series where all are
kept_apart : (test : Reading → Bool) (key : SeriesKey) (rs : List Reading) → AllByRecursion (λ y. key_eq key y ≡ false) (map (λ (r : Reading). r.key) rs) → AllByRecursion (λ y. key_eq key y ≡ false) (map (λ (r : Reading). r.key) (filter test rs))
kept_apart test key [] apart = tt
kept_apart test key (r ∷ rs) apart = go (test r) (kept_apart test key rs apart.1)
  where
    go : (b : Bool) → AllByRecursion (λ y. key_eq key y ≡ false) (map (λ (q : Reading). q.key) (filter test rs)) → AllByRecursion (λ y. key_eq key y ≡ false) (map (λ (q : Reading). q.key) (cond b (r ∷ filter test rs) (filter test rs)))
    go true later = (apart.0, later)
    go false later = later

kept_distinct : (test : Reading → Bool) (rs : List Reading) → IsDistinct key_eq (map (λ (r : Reading). r.key) rs) → IsDistinct key_eq (map (λ (r : Reading). r.key) (filter test rs))
unfolding IsDistinct
kept_distinct test [] once = tt
kept_distinct test (r ∷ rs) once = go (test r) (kept_distinct test rs once.1)
  where
    go : (b : Bool) → IsDistinct key_eq (map (λ (q : Reading). q.key) (filter test rs)) → IsDistinct key_eq (map (λ (q : Reading). q.key) (cond b (r ∷ filter test rs) (filter test rs)))
    go true later = (kept_apart test r.key rs once.0, later)
    go false later = later

-- so no series is told twice to be gone
pub gone_differ : (t : Tracking) (before now : Page) → IsDistinct key_eq (presence.keys_of before) → IsDistinct key_eq (keys_gone t before now)
gone_differ t before now once = kept_distinct (is_gone t now) (all_readings before) once

-- those that are told have points
kept_points : (t : Tracking) (now : Page) (rs : List Reading) → AllByRecursion (λ (key : SeriesKey). has_points key.kind ≡ true) (map (λ (r : Reading). r.key) (filter (is_gone t now) rs))
kept_points t now [] = tt
kept_points t now (r ∷ rs) = by (is_gone t now r) refl (kept_points t now rs)
  where
    by : (b : Bool) → is_gone t now r ≡ b → AllByRecursion (λ (key : SeriesKey). has_points key.kind ≡ true) (map (λ (q : Reading). q.key) (filter (is_gone t now) rs))
        → AllByRecursion (λ (key : SeriesKey). has_points key.kind ≡ true) (map (λ (q : Reading). q.key) (cond b (r ∷ filter (is_gone t now) rs) (filter (is_gone t now) rs)))
    by true e later = ((and_parts (has_points r.key.kind) (is_none (own_time t r)) (and_parts (has_points r.key.kind && is_none (own_time t r)) (not (is_present r.key now)) e).0).0, later)
    by false e later = later

pub gone_have_points : (t : Tracking) (before now : Page) → AllByRecursion (λ (key : SeriesKey). has_points key.kind ≡ true) (keys_gone t before now)
gone_have_points t before now = kept_points t now (all_readings before)

-- where nothing with points is missed, none is told
none_passes : (t : Tracking) (now : Page) (rs : List Reading) → list_any (λ (r : Reading). has_points r.key.kind && not (is_present r.key now)) rs ≡ false → map (λ (r : Reading). r.key) (filter (is_gone t now) rs) ≡ []
none_passes t now [] e = refl
none_passes t now (r ∷ rs) e =
    let parts = or_parts (has_points r.key.kind && not (is_present r.key now)) (list_any (λ (q : Reading). has_points q.key.kind && not (is_present q.key now)) rs) e in
    let here : is_gone t now r ≡ false = without (has_points r.key.kind) (is_none (own_time t r)) (not (is_present r.key now)) parts.0 in
    rw here (none_passes t now rs parts.1)
  where
    without : (a b c : Bool) → (a && c) ≡ false → (a && b && c) ≡ false
    without true true c h = h
    without true false c h = refl
    without false b c h = refl

pub none_missed : (t : Tracking) (past : List Scrape) (now : Page) → lacks_some past now ≡ false → keys_gone t (last_page past) now ≡ []
none_missed t past now e = none_passes t now (all_readings (last_page past)) e

-- ---- series that a page lacks

-- a reading of a series is found just where its key is among the keys
pub read_there : (key : SeriesKey) (rs : List Reading) → is_some (find (λ (r : Reading). key_eq key r.key) rs) ≡ list_any (key_eq key) (map (λ (r : Reading). r.key) rs)
read_there key [] = refl
read_there key (r ∷ rs) = go (key_eq key r.key) refl (read_there key rs)
  where
    go : (b : Bool) → key_eq key r.key ≡ b → is_some (find (λ (q : Reading). key_eq key q.key) rs) ≡ list_any (key_eq key) (map (λ (q : Reading). q.key) rs)
        → is_some (find (λ (q : Reading). key_eq key q.key) (r ∷ rs)) ≡ list_any (key_eq key) (map (λ (q : Reading). q.key) (r ∷ rs))
    go true e later = rw e refl
    go false e later = rw e later

-- a reading whose time is not its own has none
untimed : (t : Tracking) (honor : Bool) (r : Reading) → t.honor ≡ honor → is_none (own_time t r) ≡ not (has_own_time honor r)
unfolding has_own_time
untimed t honor r same = rw same (by honor r.stamp)
  where
    by : (b : Bool) (o : Option ℕ) → is_none (cond b o None) ≡ not (b && is_some o)
    by true None = refl
    by true (Some n) = refl
    by false o = refl

-- a reading is gone just where it has no time of its own and its series is lacking
gone_is : (t : Tracking) (honor : Bool) (now : Page) (r : Reading) → t.honor ≡ honor → is_gone t now r ≡ (not (has_own_time honor r) && is_lacking (presence.keys_of now) r.key)
unfolding is_lacking
gone_is t honor now r same =
    (λ i. has_points r.key.kind && untimed t honor r same i && not (read_there r.key (all_readings now) i))
    ∙ turned (has_points r.key.kind) (not (has_own_time honor r)) (not (list_any (key_eq r.key) (presence.keys_of now)))
  where
    turned : (a b c : Bool) → (a && b && c) ≡ (b && (a && c))
    turned true true c = refl
    turned true false c = refl
    turned false true c = refl
    turned false false c = refl

pub all_lacking : (t : Tracking) (honor : Bool) (now : Page) (rs : List Reading) → t.honor ≡ honor → filter (is_lacking (presence.keys_of now)) (untimed_keys honor rs) ≡ map (λ (r : Reading). r.key) (filter (is_gone t now) rs)
all_lacking t honor now [] same = refl
all_lacking t honor now (r ∷ rs) same = go (not (has_own_time honor r)) refl (is_lacking (presence.keys_of now) r.key) refl (gone_is t honor now r same) (all_lacking t honor now rs same)
  where
    go : (b : Bool) → not (has_own_time honor r) ≡ b → (c : Bool) → is_lacking (presence.keys_of now) r.key ≡ c → is_gone t now r ≡ (not (has_own_time honor r) && is_lacking (presence.keys_of now) r.key)
        → filter (is_lacking (presence.keys_of now)) (untimed_keys honor rs) ≡ map (λ (q : Reading). q.key) (filter (is_gone t now) rs)
        → filter (is_lacking (presence.keys_of now)) (untimed_keys honor (r ∷ rs)) ≡ map (λ (q : Reading). q.key) (filter (is_gone t now) (r ∷ rs))
    go true p true q is later = rw (is, p, q) (ap (λ ks. r.key ∷ ks) later)
    go true p false q is later = rw (is, p, q) later
    go false p c q is later = rw (is, p) later

-- a series whose kind has no points is never lacking
pub without_points : (others : List SeriesKey) (key : SeriesKey) (b : Bool) → b ≡ has_points key.kind → b ≡ false → false ≡ is_lacking others key
unfolding is_lacking
without_points others key true e n = absurd cc
without_points others key false e n = rw (← e) refl

-- another is where it is found nowhere
pub with_points : (others : List SeriesKey) (key : SeriesKey) (b : Bool) (found : Option ℕ) (none : Bool) → b ≡ has_points key.kind → b ≡ true → is_some found ≡ list_any (key_eq key) others → is_some found ≡ not none → none ≡ is_lacking others key
unfolding is_lacking
with_points others key false found none e n there is = absurd cc
with_points others key true found true e n there is = rw (← e, ← there, is) refl
with_points others key true found false e n there is = rw (← e, ← there, is) refl

-- what is lacking of the keys asked for is what is gone, also where keys that stand in both were taken away
pub all_gone : {E : Type 0} (r : Result (List SeriesKey) E) (honor : Bool) (before now : Page) (gone others keys strays left : List SeriesKey) → others ≡ untimed_keys false (all_readings now) → keys ≡ untimed_keys honor (all_readings before) → IsDistinct key_eq (presence.keys_of before)
    → IsParted keys others strays left → gone ≡ filter (is_lacking left) strays → IfOk r (λ list. list ≡ gone) → IfOk r (λ list. (t : Tracking) → t.honor ≡ honor → list ≡ keys_gone t before now)
unfolding is_lacking
all_gone (Ok list) honor before now gone others keys strays left o k once parted g is = λ t same.
    let distinct : IsDistinct key_eq keys = subst (IsDistinct key_eq) (sym k) (kept_distinct (λ (r : Reading). not (has_own_time honor r)) (all_readings before) once) in
    let all : filter (is_lacking others) keys ≡ filter (is_lacking left) strays = gone_of_parted (λ key. has_points key.kind) keys others strays left parted distinct in
    let whole : others ≡ presence.keys_of now = o ∙ all_untimed (all_readings now) in
    is ∙ (g ∙ (sym all ∙ ((λ i. filter (is_lacking (whole i)) (k i)) ∙ all_lacking t honor now (all_readings before) same)))
all_gone (Err e) honor before now gone others keys strays left o k once parted g is = tt
