-- Marks tell which series are gone as their page does.
use Rattle.std.proofs.Common.{◌≡◌, ℕ, Bool, true, false, not, ◌&&◌, List, [], ◌∷◌, map, filter, Option, is_some, refl, sym, ap, ◌∙◌}
use Rattle.std.specs.Prelude.{Result, Ok, Err, IfOk, is_none}
use Rattle.std.specs.List.{list_any}
use Rattle.label_sets.specs.declared.series_key.SeriesKey.{SeriesKey}
use Rattle.label_sets.specs.Keys.{key_eq}
use Rattle.page_model.specs.declared.page.Reading.{Reading}
use Rattle.page_model.specs.declared.page.Page.{Page}
use Rattle.page_model.specs.Presence.{all_readings, keys_of, is_present}
use Rattle.start_times.specs.Starts.{Tracking, has_points, own_time}
use Rattle.staleness.specs.declared.marks.Mark.{Mark}
use Rattle.staleness.specs.Vanished.{is_gone}
use Rattle.staleness.specs.Marks.{mark_of, is_missed, marks_gone, is_unread, MarksAreEnough}
use Rattle.staleness.proofs.Lacking.{read_there}

-- ---- the marks of a page

over_readings : (t : Tracking) (now : Page) (rs : List Reading)
    → map (λ (m : Mark). m.key) (filter (is_missed now) (map (mark_of t) (filter (λ (r : Reading). has_points r.key.kind) rs))) ≡ map (λ (r : Reading). r.key) (filter (is_gone t now) rs)
over_readings t now [] = refl
over_readings t now (r ∷ rs) = go (has_points r.key.kind) refl (is_none (own_time t r)) refl (is_present r.key now) refl (over_readings t now rs)
  where
    go : (b : Bool) → has_points r.key.kind ≡ b → (c : Bool) → is_none (own_time t r) ≡ c → (d : Bool) → is_present r.key now ≡ d
        → map (λ (m : Mark). m.key) (filter (is_missed now) (map (mark_of t) (filter (λ (q : Reading). has_points q.key.kind) rs))) ≡ map (λ (q : Reading). q.key) (filter (is_gone t now) rs)
        → map (λ (m : Mark). m.key) (filter (is_missed now) (map (mark_of t) (filter (λ (q : Reading). has_points q.key.kind) (r ∷ rs)))) ≡ map (λ (q : Reading). q.key) (filter (is_gone t now) (r ∷ rs))
    go true h true o true p rest = rw (h, o, p) rest
    go true h true o false p rest = rw (h, o, p) (ap (λ ks. r.key ∷ ks) rest)
    go true h false o d p rest = rw (h, o) rest
    go false h c o d p rest = rw h rest

pub marks_are_enough : MarksAreEnough
marks_are_enough t before now = over_readings t now (all_readings before)

-- ---- what the code asks

missed_is : (now : Page) (m : Mark) → is_unread (keys_of now) m ≡ is_missed now m
unfolding is_unread
missed_is now m = ap (λ (b : Bool). not m.own && not b) (sym (read_there m.key (all_readings now)))

all_missed : (now : Page) (marks : List Mark) → map (λ (m : Mark). m.key) (filter (is_unread (keys_of now)) marks) ≡ marks_gone marks now
all_missed now [] = refl
all_missed now (m ∷ marks) = go (is_missed now m) refl (missed_is now m) (all_missed now marks)
  where
    go : (b : Bool) → is_missed now m ≡ b → is_unread (keys_of now) m ≡ is_missed now m → map (λ (x : Mark). x.key) (filter (is_unread (keys_of now)) marks) ≡ marks_gone marks now
        → map (λ (x : Mark). x.key) (filter (is_unread (keys_of now)) (m ∷ marks)) ≡ marks_gone (m ∷ marks) now
    go true e is rest = rw (is, e) (ap (λ ks. m.key ∷ ks) rest)
    go false e is rest = rw (is, e) rest

pub with_own_time : (others : List SeriesKey) (m : Mark) → m.own ≡ true → false ≡ is_unread others m
unfolding is_unread
with_own_time others m own = rw own refl

pub without_own_time : (others : List SeriesKey) (m : Mark) (found : Option ℕ) (none : Bool) → m.own ≡ false → is_some found ≡ list_any (key_eq m.key) others → is_some found ≡ not none → none ≡ is_unread others m
unfolding is_unread
without_own_time others m found true own there is = rw (own, ← there, is) refl
without_own_time others m found false own there is = rw (own, ← there, is) refl

-- what the code tells is what the marks tell
pub marks_told : {E : Type 0} (r : Result (List SeriesKey) E) (now : Page) (marks slice : List Mark) (others places gone : List SeriesKey) → others ≡ keys_of now → places ≡ others → slice ≡ marks
    → gone ≡ map (λ (m : Mark). m.key) (filter (is_unread places) slice) → IfOk r (λ list. list ≡ gone) → IfOk r (λ list. list ≡ marks_gone marks now)
marks_told (Ok list) now marks slice others places gone o p s g is =
    is ∙ g ∙ (λ i. map (λ (m : Mark). m.key) (filter (is_unread ((p ∙ o) i)) (s i))) ∙ all_missed now marks
marks_told (Err e) now marks slice others places gone o p s g is = tt
