-- A start is never later than its time; and where times of the page don't count, no reading is late.
use Rattle.std.proofs.Common.{◌≡◌, ℕ, ◌+◌, ◌≤◌, ◌<◌, Bool, true, false, cond, List, [], ◌∷◌, unwrap_or, Option, Some, None, option_and_then, refl, sym, subst, arith}
use Rattle.std.specs.Prelude.{nat_le, nat_lt}
use Rattle.std.proofs.lemmas.Option.{none-some, same_Some}
use Rattle.std.proofs.lemmas.Bool.{leb-true, ltb-true, lt-ltb}
use Rattle.label_sets.specs.declared.series_key.SeriesKey.{SeriesKey}
use Rattle.exact_decimal.specs.Order.{nanos}
use Rattle.page_model.specs.declared.page.Reading.{Reading}
use Rattle.page_model.specs.Presence.{reading_at}
use Rattle.start_times.specs.Scrapes.{Scrape}
use Rattle.start_times.specs.Starts.{Tracking, Sight, time_of, time_at, is_later, taken_behind, last_taken, up_to, created_at, is_reset, is_reset_beside, last_reset, start_time}
use Rattle.start_times.specs.Laws.{RiseTo, StartIsNotLater, NoneIsLate}
use Rattle.start_times.proofs.RowLaws.{here_of, reset_before}

-- ---- the start

created_before : (time : ℕ) (o : Option ℕ) (n : ℕ) → option_and_then (up_to time) o ≡ Some n → n ≤ time
unfolding up_to
created_before time None n e = absurd (none-some n e)
created_before time (Some m) n e = go (nat_le m time) refl
  where
    go : (b : Bool) → nat_le m time ≡ b → n ≤ time
    go true h = let same : m ≡ n = same_Some m n (rw h at e) in subst (λ k. k ≤ time) same (leb-true m time h)
    go false h = absurd (none-some n (rw h at e))

chosen : (c : Option ℕ) (b : Bool) (time before : ℕ) → ((n : ℕ) → c ≡ Some n → n ≤ time) → (b ≡ false → before ≤ time) → unwrap_or c (cond b time before) ≤ time
chosen (Some n) b time before f g = f n refl
chosen None true time before f g = omega arith
chosen None false time before f g = g refl

pub start_is_not_later : StartIsNotLater
unfolding start_time
start_is_not_later t moment r past taken = chosen (created_at (time_of t moment r) r) (is_reset t moment r past) (time_of t moment r) (last_reset t r.key past)
    (created_before (time_of t moment r) (option_and_then nanos r.created)) (λ even. from (last_taken t r.key past) refl taken even)
  where
    from : (o : Option Sight) → last_taken t r.key past ≡ o → is_later t (last_taken t r.key past) (time_of t moment r) ≡ true → is_reset_beside t (last_taken t r.key past) (time_of t moment r) r ≡ false
        → last_reset t r.key past ≤ time_of t moment r
    from None e l even = absurd (let f : true ≡ false = rw e at even in cc)
    from (Some s) e l even =
        let few = reset_before t r.key past 0 s e in
        let less : nat_lt (time_at t s) (time_of t moment r) ≡ true = rw e at l in
        let below = ltb-true (time_at t s) (time_of t moment r) less in
        omega arith

-- ---- without own times

-- the time of a reading is the moment of its scrape
pub moment_is : (t : Tracking) (moment : ℕ) (r : Reading) → t.honor ≡ false → time_of t moment r ≡ moment
moment_is t moment r off = rw off refl

-- what was taken in a past was taken before a moment to which that rises
pub below : (t : Tracking) (key : SeriesKey) (past : List Scrape) (missed moment : ℕ) (s : Sight) → t.honor ≡ false → RiseTo moment past → taken_behind t key missed past ≡ Some s → time_at t s < moment
below t key [] missed moment s off rise e = absurd (none-some s e)
below t key (now ∷ past) missed moment s off rise e = go (reading_at key now.page) refl (below t key past (missed + 1) now.moment s off rise.1) (below t key past 0 now.moment s off rise.1)
  where
    go : (o : Option Reading) → reading_at key now.page ≡ o → (taken_behind t key (missed + 1) past ≡ Some s → time_at t s < now.moment) → (taken_behind t key 0 past ≡ Some s → time_at t s < now.moment) → time_at t s < moment
    go None p further before = let i = further (rw p at e) in let j = rise.0 in omega arith
    go (Some r) p further before = by (nat_le missed t.keep) refl (is_later t (taken_behind t key 0 past) (time_of t now.moment r)) refl
      where
        by : (b : Bool) → nat_le missed t.keep ≡ b → (c : Bool) → is_later t (taken_behind t key 0 past) (time_of t now.moment r) ≡ c → time_at t s < moment
        by false h c l = absurd (none-some s (rw (p, h) at e))
        by true h true l =
            let same : here_of now past r ≡ s = same_Some (here_of now past r) s (rw (p, h, l) at e) in
            subst (λ (z : Sight). time_at t z < moment) same (let m : time_of t now.moment r ≡ now.moment = moment_is t now.moment r off in subst (λ n. n < moment) (sym m) rise.0)
        by true h false l = let i = before (rw (p, h, l) at e) in let j = rise.0 in omega arith

-- a moment is later than all that was taken in a past that rises to it
pub later_than_past : (t : Tracking) (key : SeriesKey) (past : List Scrape) (moment : ℕ) → t.honor ≡ false → RiseTo moment past → is_later t (last_taken t key past) moment ≡ true
later_than_past t key past moment off rise = from (last_taken t key past) refl
  where
    from : (o : Option Sight) → last_taken t key past ≡ o → is_later t (last_taken t key past) moment ≡ true
    from None e = rw e refl
    from (Some s) e = rw e (lt-ltb (time_at t s) moment (below t key past 0 moment s off rise e))

pub none_is_late : NoneIsLate
none_is_late t moment r past off rise = subst (λ time. is_later t (last_taken t r.key past) time ≡ true) (sym (moment_is t moment r off)) (later_than_past t r.key past moment off rise)
