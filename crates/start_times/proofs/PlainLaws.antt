-- Where times of the page don't count, starts are those that the moments of scrapes alone give.
use Rattle.std.proofs.Common.{◌≡◌, ℕ, zero, suc, ◌+◌, ◌≤◌, ◌<◌, Bool, true, false, cond, ◌&&◌, List, [], ◌∷◌, find, take, unwrap_or, min, Option, Some, None, option_map, refl, sym, ap, subst, ◌∙◌, arith}
use Rattle.std.specs.Prelude.{nat_le}
use Rattle.std.proofs.lemmas.Bool.{le-leb, lt-leb}
use Rattle.label_sets.specs.declared.series_key.SeriesKey.{SeriesKey}
use Rattle.page_model.specs.declared.page.Reading.{Reading}
use Rattle.page_model.specs.Presence.{reading_at, is_present}
use Rattle.start_times.specs.declared.row.Placed.TheVariants.{At}
use Rattle.start_times.specs.Scrapes.{Scrape}
use Rattle.start_times.specs.Starts.{Tracking, has_points, has_start, time_of, is_later, taken_behind, last_taken, is_taken, created_at, is_reset, is_reset_beside, last_reset, start_time, start_at, placed, reading_place, start_there}
use Rattle.start_times.specs.Laws.{RiseTo}
use Rattle.start_times.specs.PlainTimes.{PlainPlaces, PlainStartsThere, last_seen, is_plain_reset_beside, is_plain_reset, plain_last_reset, plain_start_time, plain_start_there}
use Rattle.start_times.proofs.RowLaws.{reading_is_of, here_of}
use Rattle.start_times.proofs.Times.{moment_is, later_than_past, none_is_late, start_is_not_later}

-- ---- where a series was last seen it was last taken

-- what the scrape that last had a series says of where it was last taken
Sees : Tracking → SeriesKey → ℕ → List Scrape → Option Scrape → Type 0
Sees t key missed past None = taken_behind t key missed past ≡ None
Sees t key missed past (Some s) = (r : Reading) × (rest : List Scrape) × (reading_at key s.page ≡ Some r) × (taken_behind t key missed past ≡ Some (here_of s rest r))

none_behind : (t : Tracking) (key : SeriesKey) (past : List Scrape) (missed : ℕ) → t.keep < missed → taken_behind t key missed past ≡ None
none_behind t key [] missed h = refl
none_behind t key (now ∷ past) missed h = go (reading_at key now.page) refl (none_behind t key past (missed + 1) (omega arith))
  where
    go : (o : Option Reading) → reading_at key now.page ≡ o → taken_behind t key (missed + 1) past ≡ None → taken_behind t key missed (now ∷ past) ≡ None
    go None p rest = rw p rest
    go (Some r) p rest = rw (p, lt-leb missed t.keep h) refl

-- a scrape that has the series takes it
taken_now : (t : Tracking) (key : SeriesKey) (now : Scrape) (past : List Scrape) (r : Reading) (missed : ℕ) → t.honor ≡ false → RiseTo now.moment past → missed ≤ t.keep → reading_at key now.page ≡ Some r
    → taken_behind t key missed (now ∷ past) ≡ Some (here_of now past r)
taken_now t key now past r missed off rise few p =
    let young : nat_le missed t.keep ≡ true = le-leb missed t.keep few in
    let l : is_later t (taken_behind t key 0 past) (time_of t now.moment r) ≡ true = subst (λ time. is_later t (last_taken t key past) time ≡ true) (sym (moment_is t now.moment r off)) (later_than_past t key past now.moment off rise) in
    rw (p, young, l) refl

sees : (t : Tracking) (key : SeriesKey) (past : List Scrape) (moment n missed : ℕ) → t.honor ≡ false → RiseTo moment past → missed + n ≡ t.keep + 1
    → Sees t key missed past (find (λ (s : Scrape). is_present key s.page) (take n past))
unfolding Sees
sees t key past moment zero missed off rise e = none_behind t key past missed (omega arith)
sees t key [] moment (suc n) missed off rise e = refl
sees t key (now ∷ past) moment (suc n) missed off rise e = go (reading_at key now.page) refl (sees t key past now.moment n (missed + 1) off rise.1 (omega arith))
  where
    go : (o : Option Reading) → reading_at key now.page ≡ o → Sees t key (missed + 1) past (find (λ (s : Scrape). is_present key s.page) (take n past))
        → Sees t key missed (now ∷ past) (find (λ (s : Scrape). is_present key s.page) (take (suc n) (now ∷ past)))
    go (Some r) p rest = let there : is_present key now.page ≡ true = rw p refl in
        let taken = taken_now t key now past r missed off rise.1 (omega arith) p in
        rw there (r, past, p, taken)
    go None p rest = let gone : is_present key now.page ≡ false = rw p refl in rw gone (further (find (λ (s : Scrape). is_present key s.page) (take n past)) rest)
      where
        further : (o : Option Scrape) → Sees t key (missed + 1) past o → Sees t key missed (now ∷ past) o
        further None h = rw p h
        further (Some s) h = (h.0, h.1, h.2, rw p h.3)

-- ---- resets and starts

beside : (t : Tracking) (past : List Scrape) (moment : ℕ) (r : Reading) (o : Option Scrape) → t.honor ≡ false → Sees t r.key 0 past o
    → is_reset_beside t (taken_behind t r.key 0 past) moment r ≡ is_plain_reset_beside o moment r
unfolding Sees
beside t past moment r None off h = rw h refl
beside t past moment r (Some s) off h = let m : time_of t s.moment h.0 ≡ s.moment = moment_is t s.moment h.0 off in rw (h.3, h.2, m) refl

pub same_reset : (t : Tracking) (moment : ℕ) (r : Reading) (past : List Scrape) → t.honor ≡ false → RiseTo moment past → is_reset t moment r past ≡ is_plain_reset t moment r past
same_reset t moment r past off rise =
    ap (λ time. is_reset_beside t (last_taken t r.key past) time r) (moment_is t moment r off) ∙ beside t past moment r (last_seen t r.key past) off (sees t r.key past moment (t.keep + 1) 0 off rise (omega arith))

pub same_last_reset : (t : Tracking) (key : SeriesKey) (past : List Scrape) (moment : ℕ) → t.honor ≡ false → RiseTo moment past → last_reset t key past ≡ plain_last_reset t key past
same_last_reset t key [] moment off rise = refl
same_last_reset t key (now ∷ past) moment off rise = go (reading_at key now.page) refl (same_last_reset t key past now.moment off rise.1)
  where
    go : (o : Option Reading) → reading_at key now.page ≡ o → last_reset t key past ≡ plain_last_reset t key past → last_reset t key (now ∷ past) ≡ plain_last_reset t key (now ∷ past)
    go None p rest = rw p rest
    go (Some r) p rest =
        let taken : is_taken t now.moment r past ≡ true = none_is_late t now.moment r past off rise.1 in
        let m : time_of t now.moment r ≡ now.moment = moment_is t now.moment r off in
        let new : last_reset t key (now ∷ past) ≡ cond (is_reset t now.moment r past) (time_of t now.moment r) (last_reset t key past) = rw (p, taken) refl in
        let old : plain_last_reset t key (now ∷ past) ≡ cond (is_plain_reset t now.moment r past) now.moment (plain_last_reset t key past) = rw p refl in
        new ∙ ap (λ b. cond b (time_of t now.moment r) (last_reset t key past)) (same_reset t now.moment r past off rise.1)
        ∙ ap (λ n. cond (is_plain_reset t now.moment r past) n (last_reset t key past)) m
        ∙ ap (λ n. cond (is_plain_reset t now.moment r past) now.moment n) rest ∙ sym old

pub same_start : (t : Tracking) (moment : ℕ) (r : Reading) (past : List Scrape) → t.honor ≡ false → RiseTo moment past → start_time t moment r past ≡ plain_start_time t moment r past
unfolding start_time
same_start t moment r past off rise =
    let reset = same_reset t moment r past off rise in
    let last = same_last_reset t r.key past moment off rise in
    ap (λ time. unwrap_or (created_at time r) (cond (is_reset t moment r past) time (last_reset t r.key past))) (moment_is t moment r off)
    ∙ ap (λ b. unwrap_or (created_at moment r) (cond b moment (last_reset t r.key past))) reset
    ∙ ap (λ n. unwrap_or (created_at moment r) (cond (is_plain_reset t moment r past) moment n)) last

-- each reading has a point at the moment, with the start that it had
pub same_place : PlainPlaces
unfolding reading_place placed
same_place t moment r past off rise = rw (none_is_late t moment r past off rise)
    (ap (λ time. cond (has_points r.key.kind) (Some (At time (start_time t moment r past))) None) (moment_is t moment r off)
    ∙ ap (λ start. cond (has_points r.key.kind) (Some (At moment start)) None) (same_start t moment r past off rise))

-- ---- the starts of markers

least : (a b : ℕ) → b < a → min a b ≡ b
least a b h = omega arith

pub same_start_there : PlainStartsThere
same_start_there t moment key [] off rise = go (has_start key.kind)
  where
    go : (b : Bool) → option_map (min moment) (cond (b && false) (option_map (start_at t) None) None) ≡ None
    go true = refl
    go false = refl
same_start_there t moment key (last ∷ before) off rise = go (has_start key.kind) refl (reading_at key last.page) refl
  where
    go : (b : Bool) → has_start key.kind ≡ b → (o : Option Reading) → reading_at key last.page ≡ o → option_map (min moment) (start_there t (last ∷ before) key) ≡ plain_start_there t (last ∷ before) key
    go false b None p = rw (b, p) refl
    go true b None p = rw (b, p) refl
    go false b (Some r) p = let same : has_start r.key.kind ≡ false = subst (λ (k : SeriesKey). has_start k.kind ≡ false) (sym (reading_is_of key last r p)) b in rw (b, p, same) refl
    go true b (Some r) p =
        let same : has_start r.key.kind ≡ true = subst (λ (k : SeriesKey). has_start k.kind ≡ true) (sym (reading_is_of key last r p)) b in
        let taken = taken_now t key last before r 0 off rise.1 (omega arith) p in
        let there : is_present key last.page ≡ true = rw p refl in
        let at_moment : start_time t last.moment r before ≤ time_of t last.moment r = start_is_not_later t last.moment r before (none_is_late t last.moment r before off rise.1) in
        let m : time_of t last.moment r ≡ last.moment = moment_is t last.moment r off in
        let first = rise.0 in
        let new : option_map (min moment) (start_there t (last ∷ before) key) ≡ Some (min moment (start_time t last.moment r before)) = rw (b, there, taken) refl in
        let old : plain_start_there t (last ∷ before) key ≡ Some (plain_start_time t last.moment r before) = rw (p, same) refl in
        new ∙ ap Some (least moment (start_time t last.moment r before) (omega arith)) ∙ ap Some (same_start t last.moment r before off rise.1) ∙ sym old
