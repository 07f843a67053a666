-- Starts that stay: between two breaks, and over scrapes that missed the series.
use Rattle.std.proofs.Common.{◌≡◌, ℕ, ◌+◌, true, false, not, List, [], ◌∷◌, ◌++◌, unwrap_or, length, Option, Some, None, refl, sym, ap, ◌∙◌, arith}
use Rattle.std.specs.Prelude.{nat_le, nat_eq}
use Rattle.std.specs.List.{AllByRecursion}
use Rattle.std.specs.Option.{option_eq}
use Rattle.std.proofs.lemmas.Bool.{le-leb, or_parts, not-false}
use Rattle.std.proofs.lemmas.Bool.Decides.{nat_tests}
use Rattle.label_sets.specs.declared.series_key.SeriesKey.{SeriesKey}
use Rattle.page_model.specs.Presence.{reading_at, is_present}
use Rattle.start_times.specs.Scrapes.{Scrape}
use Rattle.start_times.specs.Starts.{Tracking, time_of, time_at, is_later, taken_behind, created_at, last_of, falls, differs, is_reset, last_reset, start_time, start_at}
use Rattle.start_times.specs.Laws.{StartStays, TakenBehindMisses}
use Rattle.start_times.proofs.RowLaws.{stands, reset_at, here_of, none_is}

-- ---- one start

same_option : (a b : Option ℕ) → option_eq nat_eq a b ≡ true → a ≡ b
same_option None None e = refl
same_option None (Some n) e = absurd (let f : false ≡ true = e in cc)
same_option (Some m) None e = absurd (let f : false ≡ true = e in cc)
same_option (Some m) (Some n) e = let same : m ≡ n = grind (arith, nat_tests) in ap Some same

pub start_stays : StartStays
unfolding start_time differs
start_stays t moment r past s taken same =
    let time = time_of t moment r in
    let before = time_at t s in
    let parts = or_parts (falls r.key.kind (last_of s.reading.value) (last_of r.value)) (not (option_eq nat_eq (created_at before s.reading) (created_at time r))) same in
    let created : created_at before s.reading ≡ created_at time r = same_option (created_at before s.reading) (created_at time r) (not-false (option_eq nat_eq (created_at before s.reading) (created_at time r)) parts.1) in
    let even : is_reset t moment r past ≡ false = rw taken same in
    let reset : last_reset t r.key past ≡ reset_at t s = (stands t r.key past 0 s taken).1 in
    let new : start_time t moment r past ≡ unwrap_or (created_at time r) (last_reset t r.key past) = rw even refl in
    let old : start_at t s ≡ unwrap_or (created_at before s.reading) (reset_at t s) = refl in
    new ∙ (ap (λ (n : ℕ). unwrap_or (created_at time r) n) reset ∙ (ap (λ (o : Option ℕ). unwrap_or o (reset_at t s)) (sym created) ∙ sym old))

-- ---- misses

-- a scrape that takes a series, behind scrapes that missed it
taken_after : (t : Tracking) (key : SeriesKey) (misses past : List Scrape) (n : ℕ) → AllByRecursion (λ (s : Scrape). is_present key s.page ≡ false) misses → taken_behind t key n (misses ++ past) ≡ taken_behind t key (n + length misses) past
taken_after t key [] past n missed = let same : n ≡ n + 0 = omega arith in ap (λ (m : ℕ). taken_behind t key m past) same
taken_after t key (s ∷ misses) past n missed =
    let one : taken_behind t key n (s ∷ misses ++ past) ≡ taken_behind t key (n + 1) (misses ++ past) = rw (none_is (reading_at key s.page) missed.0) refl in
    let count : n + 1 + length misses ≡ n + length (s ∷ misses) = omega arith in
    one ∙ (taken_after t key misses past (n + 1) missed.1 ∙ ap (λ (m : ℕ). taken_behind t key m past) count)

pub taken_behind_misses : TakenBehindMisses
taken_behind_misses t old misses before earlier missed few there taken =
    let young : nat_le (length misses) t.keep ≡ true = le-leb (length misses) t.keep few in
    let later : is_later t (taken_behind t old.key 0 earlier) (time_of t before.moment old) ≡ true = taken in
    let here : taken_behind t old.key (length misses) (before ∷ earlier) ≡ Some (here_of before earlier old) = rw (there, young, later) refl in
    let count : 0 + length misses ≡ length misses = omega arith in
    taken_after t old.key misses (before ∷ earlier) 0 missed ∙ (ap (λ (m : ℕ). taken_behind t old.key m (before ∷ earlier)) count ∙ here)
