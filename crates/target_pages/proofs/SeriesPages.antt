-- Pages without what describes the target: they are right, and their series, marks and rows are those of pages without exemplars too.
use Rattle.std.proofs.Common.{◌≡◌, ℕ, Bool, true, false, cond, not, ◌&&◌, List, [], ◌∷◌, ◌++◌, map, filter, find, Option, Some, None, is_some, option_map, unwrap_or, refl, sym, ap, subst, ◌∙◌}
use Rattle.std.specs.Prelude.{nat_le}
use Rattle.std.specs.List.{AllByRecursion, IsDistinct, flat_map}
use Rattle.std.proofs.lemmas.List.{map-append}
use Rattle.std.proofs.lemmas.List.Elements.{filter-append}
use Rattle.label_sets.specs.declared.series_key.SeriesKey.{SeriesKey}
use Rattle.label_sets.specs.Keys.{key_eq}
use Rattle.page_model.specs.declared.page.Reading.{Reading}
use Rattle.page_model.specs.declared.page.Family.{Family}
use Rattle.page_model.specs.declared.page.Page.{Page}
use Rattle.page_model.specs.PageValues.{PageValue}
use Rattle.page_model.specs.Written.{Setting}
use Rattle.page_model.specs.Pages.{IsThinnerReading, IsThinnerFamily, IsPageRead, IsRightPage}
use Rattle.page_model.specs.Presence.{empty_page, all_readings, reading_at}
use Rattle.page_model.proofs.Laws.{some_filtered, filled_readings}
use Rattle.start_times.specs.declared.row.Row.{Row}
use Rattle.start_times.specs.Starts.{Tracking, Sight, has_points, time_of, time_at, created_at, last_of, is_later, later_sight, taken_behind, last_taken, is_reset_beside, last_reset, start_time, differs}
use Rattle.start_times.specs.Rows.{Tracked, Tracks, row_of, kept_row}
use Rattle.start_times.specs.Scrapes.{Scrape}
use Rattle.start_times.specs.Advancing.{HasDistinctKeys, scrape_of}
use Rattle.staleness.specs.declared.marks.Mark.{Mark}
use Rattle.staleness.specs.Marks.{mark_of, marks_of}
use Rattle.target_pages.specs.Thinned.{bare_of_exemplars, without_exemplars, shown_page}
use Rattle.target_pages.specs.Stretches.{is_info, without_info}
use Rattle.target_pages.specs.SeriesPages.{is_series, series_family, marks_where}
use Rattle.target_pages.proofs.BarePages.{some_changed}

-- ---- lists

-- where no element is found none is taken out
none_out : {A : Type 0} (test : A → Bool) (xs : List A) → find test xs ≡ None → filter (λ x. not (test x)) xs ≡ xs
none_out {A} test [] h = refl
none_out {A} test (x ∷ xs) h = go (test x) refl (none_out test xs)
  where
    go : (b : Bool) → test x ≡ b → (find test xs ≡ None → filter (λ y. not (test y)) xs ≡ xs) → filter (λ y. not (test y)) (x ∷ xs) ≡ x ∷ xs
    go true e rest = absurd (let f : Some x ≡ None = sym (rw e refl) ∙ h in cc)
    go false e rest = rw e (ap (λ ys. x ∷ ys) (rest (rw e at h)))

-- ---- where nothing describes the target

abbrev readings_of : List Family → List Reading
readings_of fs = flat_map (λ (f : Family). f.readings) fs

-- none is found in either of two lists
found_none : {A : Type 0} (test : A → Bool) (xs ys : List A) → find test (xs ++ ys) ≡ None → (find test xs ≡ None) × (find test ys ≡ None)
found_none {A} test [] ys h = (refl, h)
found_none {A} test (x ∷ xs) ys h = go (test x) refl (found_none test xs ys)
  where
    go : (b : Bool) → test x ≡ b → (find test (xs ++ ys) ≡ None → (find test xs ≡ None) × (find test ys ≡ None)) → (find test (x ∷ xs) ≡ None) × (find test ys ≡ None)
    go true e rest = absurd (let f : Some x ≡ None = sym (rw e refl) ∙ h in cc)
    go false e rest = let both = rest (rw e at h) in ((rw e (both.0)), both.1)

pub whole_family_left : (f : Family) → find is_info f.readings ≡ None → series_family f ≡ f
whole_family_left f h = ap (λ (rs : List Reading). (let g : Family = record { name = f.name; kind = f.kind; help = f.help; unit = f.unit; readings = rs } in g)) (none_out is_info f.readings h)

families_left : (fs : List Family) → find is_info (readings_of fs) ≡ None → map series_family fs ≡ fs
families_left [] h = refl
families_left (f ∷ fs) h =
    let both = found_none is_info f.readings (readings_of fs) h in
    ap (λ (g : Family). g ∷ map series_family fs) (whole_family_left f both.0) ∙ ap (λ (gs : List Family). f ∷ gs) (families_left fs both.1)

-- the page without families
pub nothing_left : without_info empty_page ≡ empty_page
unfolding without_info
nothing_left = refl

pub whole_page_left : (page : Page) → find is_info (all_readings page) ≡ None → without_info page ≡ page
unfolding without_info
whole_page_left page h = ap (λ (fs : List Family). (let p : Page = record { families = fs; samples = page.samples } in p)) (families_left page.families h)

-- ---- it is right

family_thinner : (f g : Family) → IsThinnerFamily f g → IsThinnerFamily f (series_family g)
family_thinner f g h = record {
  name = h.name;
  kind = h.kind;
  help = h.help;
  unit = h.unit;
  readings = some_filtered IsThinnerReading is_series f.readings g.readings h.readings;
}

left_read : (st : Setting) (page : PageValue) → IsPageRead st page → IsPageRead st (record { families = map series_family page.families; samples = page.samples })
left_read st page read = record {
  text = read.text;
  whole = read.whole;
  read = read.read;
  families = some_changed IsThinnerFamily series_family family_thinner read.whole.families page.families read.families;
  samples = read.samples;
}

-- so a page without what describes the target was read
pub series_are_read : (st : Setting) (page : Page) → IsPageRead st page → IsPageRead st (without_info page)
unfolding without_info
series_are_read st page read = left_read st page read

-- the page of the families that are left
pub left_is_right : (page : PageValue) (fs left : List Family) (samples : ℕ) → fs ≡ page.families → left ≡ map series_family fs → samples ≡ page.samples
    → IsRightPage page → IsRightPage (record { families = left; samples = samples })
left_is_right page fs left samples own is same right =
    let made : ◌≡◌ {A = PageValue} (record { families = map series_family page.families; samples = page.samples }) (record { families = left; samples = samples }) =
    λ i. record { families = sym (is ∙ ap (map series_family) own) i; samples = sym same i } in
    subst IsRightPage made (right.0, left_read right.0 page right.1)

pub left_page : (page : Page) (fs left : List Family) (samples : ℕ) → fs ≡ page.families → left ≡ map series_family fs → samples ≡ page.samples
    → ◌≡◌ {A = PageValue} (record { families = left; samples = samples }) (without_info page)
unfolding without_info
left_page page fs left samples own is same = λ i. record { families = (is ∙ ap (map series_family) own) i; samples = same i }

-- ---- its readings

families_readings : (test : Reading → Bool) (fs : List Family)
    → flat_map (λ (f : Family). f.readings) (map (λ (f : Family). record { name = f.name; kind = f.kind; help = f.help; unit = f.unit; readings = filter test f.readings }) fs)
    ≡ filter test (flat_map (λ (f : Family). f.readings) fs)
families_readings test [] = refl
families_readings test (f ∷ fs) =
    ap (λ (rs : List Reading). filter test f.readings ++ rs) (families_readings test fs) ∙ sym (filter-append test f.readings (flat_map (λ (g : Family). g.readings) fs))

pub series_are : (page : Page) → all_readings (without_info page) ≡ filter is_series (all_readings page)
unfolding without_info
series_are page = families_readings is_series page.families

families_bare : (fs : List Family)
    → flat_map (λ (f : Family). f.readings) (map (λ (f : Family). record { name = f.name; kind = f.kind; help = f.help; unit = f.unit; readings = map bare_of_exemplars f.readings }) fs)
    ≡ map bare_of_exemplars (flat_map (λ (f : Family). f.readings) fs)
families_bare [] = refl
families_bare (f ∷ fs) =
    ap (λ (rs : List Reading). map bare_of_exemplars f.readings ++ rs) (families_bare fs) ∙ sym (map-append bare_of_exemplars f.readings (flat_map (λ (g : Family). g.readings) fs))

bare_readings : (page : Page) → all_readings (without_exemplars page) ≡ map bare_of_exemplars (all_readings page)
unfolding without_exemplars
bare_readings page = families_bare page.families

bare_series : (rs : List Reading) → filter is_series (map bare_of_exemplars rs) ≡ map bare_of_exemplars (filter is_series rs)
unfolding is_info
bare_series [] = refl
bare_series (r ∷ rs) = go (is_series r) (bare_series rs)
  where
    go : (b : Bool) → filter is_series (map bare_of_exemplars rs) ≡ map bare_of_exemplars (filter is_series rs)
        → cond b (bare_of_exemplars r ∷ filter is_series (map bare_of_exemplars rs)) (filter is_series (map bare_of_exemplars rs)) ≡ map bare_of_exemplars (cond b (r ∷ filter is_series rs) (filter is_series rs))
    go true rest = ap (λ (qs : List Reading). bare_of_exemplars r ∷ qs) rest
    go false rest = rest

-- the series of a page as it is shown are those of the page, without their exemplars
pub shown_series : (page : Page) → all_readings (without_info (shown_page page)) ≡ map bare_of_exemplars (all_readings (without_info page))
shown_series page =
    series_are (shown_page page) ∙ ap (filter is_series) (filled_readings (without_exemplars page) ∙ bare_readings page)
    ∙ bare_series (all_readings page) ∙ ap (map bare_of_exemplars) (sym (series_are page))

-- ---- exemplars count for nothing in marks, rows and keys

bare_marks : (t : Tracking) (rs : List Reading)
    → map (mark_of t) (filter (λ (r : Reading). has_points r.key.kind) (map bare_of_exemplars rs)) ≡ map (mark_of t) (filter (λ (r : Reading). has_points r.key.kind) rs)
bare_marks t [] = refl
bare_marks t (r ∷ rs) = go (has_points r.key.kind) (bare_marks t rs)
  where
    counted : List Reading → List Reading
    counted qs = filter (λ (q : Reading). has_points q.key.kind) qs

    go : (b : Bool) → map (mark_of t) (counted (map bare_of_exemplars rs)) ≡ map (mark_of t) (counted rs)
        → map (mark_of t) (cond b (bare_of_exemplars r ∷ counted (map bare_of_exemplars rs)) (counted (map bare_of_exemplars rs))) ≡ map (mark_of t) (cond b (r ∷ counted rs) (counted rs))
    go true rest = ap (λ (ms : List Mark). mark_of t r ∷ ms) rest
    go false rest = rest

pub same_marks : (t : Tracking) (a b : Page) → all_readings a ≡ map bare_of_exemplars (all_readings b) → marks_of t a ≡ marks_of t b
same_marks t a b same = ap (λ (rs : List Reading). map (mark_of t) (filter (λ (r : Reading). has_points r.key.kind) rs)) same ∙ bare_marks t (all_readings b)

bare_found : (key : SeriesKey) (rs : List Reading) → find (λ (r : Reading). key_eq key r.key) (map bare_of_exemplars rs) ≡ option_map bare_of_exemplars (find (λ (r : Reading). key_eq key r.key) rs)
bare_found key [] = refl
bare_found key (r ∷ rs) = go (key_eq key r.key) (bare_found key rs)
  where
    found : List Reading → Option Reading
    found qs = find (λ (q : Reading). key_eq key q.key) qs

    go : (b : Bool) → found (map bare_of_exemplars rs) ≡ option_map bare_of_exemplars (found rs) → cond b (Some (bare_of_exemplars r)) (found (map bare_of_exemplars rs)) ≡ option_map bare_of_exemplars (cond b (Some r) (found rs))
    go true rest = refl
    go false rest = rest

bare_reset : (t : Tracking) (o : Option Sight) (time : ℕ) (r : Reading) → is_reset_beside t o time (bare_of_exemplars r) ≡ is_reset_beside t o time r
unfolding differs
bare_reset t None time r = refl
bare_reset t (Some s) time r = refl

bare_start : (t : Tracking) (moment : ℕ) (r : Reading) (past : List Scrape) → start_time t moment (bare_of_exemplars r) past ≡ start_time t moment r past
unfolding start_time
bare_start t moment r past =
    let time = time_of t moment r in
    ap (λ (b : Bool). unwrap_or (created_at time r) (cond b time (last_reset t r.key past))) (bare_reset t (last_taken t r.key past) time r)

-- the row of a reading without its exemplars
bare_taken : (t : Tracking) (r : Reading) (moment : ℕ) (before : List Scrape) → row_of t 0 (record { reading = bare_of_exemplars r; moment = moment; before = before }) ≡ row_of t 0 (record { reading = r; moment = moment; before = before })
unfolding row_of
bare_taken t r moment before =
    ap (λ (start : ℕ). (let row : Row = record { start = start; created = created_at (time_of t moment r) r; time = time_of t moment r; last = last_of r.value; age = 0 } in row)) (bare_start t moment r before)

bare_row : (t : Tracking) (prev : Option Sight) (r : Reading) (moment : ℕ) (before : List Scrape)
    → option_map (row_of t 0) (later_sight t prev (record { reading = bare_of_exemplars r; moment = moment; before = before })) ≡ option_map (row_of t 0) (later_sight t prev (record { reading = r; moment = moment; before = before }))
bare_row t prev r moment before = go (is_later t prev (time_at t (record { reading = r; moment = moment; before = before }))) (bare_taken t r moment before)
  where
    go : (b : Bool) → row_of t 0 (record { reading = bare_of_exemplars r; moment = moment; before = before }) ≡ row_of t 0 (record { reading = r; moment = moment; before = before })
        → option_map (row_of t 0) (cond b (Some (record { reading = bare_of_exemplars r; moment = moment; before = before })) prev) ≡ option_map (row_of t 0) (cond b (Some (record { reading = r; moment = moment; before = before })) prev)
    go true same = ap (λ (x : Row). Some x) same
    go false same = refl

-- what is kept goes by the row
kept_same : (t : Tracking) (p c : Bool) (x y : Option Sight) → option_map (row_of t 0) x ≡ option_map (row_of t 0) y
    → cond p (cond c (option_map (row_of t 0) (cond c x None)) None) None ≡ cond p (cond c (option_map (row_of t 0) (cond c y None)) None) None
kept_same t true true x y same = same
kept_same t true false x y same = refl
kept_same t false c x y same = refl

pub same_row : (t : Tracking) (key : SeriesKey) (moment : ℕ) (before : List Scrape) (a b : Page) → all_readings a ≡ map bare_of_exemplars (all_readings b)
    → kept_row t key (scrape_of a moment ∷ before) ≡ kept_row t key (scrape_of b moment ∷ before)
unfolding kept_row
same_row t key moment before a b same = by (reading_at key b) refl (ap (find (λ (r : Reading). key_eq key r.key)) same ∙ bare_found key (all_readings b))
  where
    by : (o : Option Reading) → reading_at key b ≡ o → reading_at key a ≡ option_map bare_of_exemplars (reading_at key b) → kept_row t key (scrape_of a moment ∷ before) ≡ kept_row t key (scrape_of b moment ∷ before)
    by None e f = let g : reading_at key a ≡ None = f ∙ ap (option_map bare_of_exemplars) e in rw (e, g) refl
    by (Some r) e f = let g : reading_at key a ≡ Some (bare_of_exemplars r) = f ∙ ap (option_map bare_of_exemplars) e in
        let prev = taken_behind t key 0 before in
        rw (e, g) (kept_same t (has_points key.kind) (nat_le 0 t.keep) (later_sight t prev (record { reading = bare_of_exemplars r; moment = moment; before = before })) (later_sight t prev (record { reading = r; moment = moment; before = before }))
        (bare_row t prev r moment before))

pub same_tracks : (t : Tracking) (k : Tracked) (moment : ℕ) (before : List Scrape) (a b : Page) → all_readings a ≡ map bare_of_exemplars (all_readings b)
    → Tracks t k (scrape_of a moment ∷ before) → Tracks t k (scrape_of b moment ∷ before)
same_tracks t k moment before a b same tracks = record { keep = tracks.keep; honor = tracks.honor; rows = λ key. tracks.rows key ∙ same_row t key moment before a b same; once = tracks.once }

-- ---- distinct keys

keys_apart : (test : Reading → Bool) (key : SeriesKey) (rs : List Reading) → AllByRecursion (λ k. key_eq key k ≡ false) (map (λ (r : Reading). r.key) rs) → AllByRecursion (λ k. key_eq key k ≡ false) (map (λ (r : Reading). r.key) (filter test rs))
keys_apart test key [] all = tt
keys_apart test key (r ∷ rs) all = go (test r) (keys_apart test key rs all.1)
  where
    go : (b : Bool) → AllByRecursion (λ k. key_eq key k ≡ false) (map (λ (q : Reading). q.key) (filter test rs)) → AllByRecursion (λ k. key_eq key k ≡ false) (map (λ (q : Reading). q.key) (cond b (r ∷ filter test rs) (filter test rs)))
    go true rest = (all.0, rest)
    go false rest = rest

distinct_left : (test : Reading → Bool) (rs : List Reading) → IsDistinct key_eq (map (λ (r : Reading). r.key) rs) → IsDistinct key_eq (map (λ (r : Reading). r.key) (filter test rs))
unfolding IsDistinct
distinct_left test [] once = tt
distinct_left test (r ∷ rs) once = go (test r) (keys_apart test r.key rs once.0) (distinct_left test rs once.1)
  where
    go : (b : Bool) → AllByRecursion (λ k. key_eq r.key k ≡ false) (map (λ (q : Reading). q.key) (filter test rs)) → IsDistinct key_eq (map (λ (q : Reading). q.key) (filter test rs))
        → IsDistinct key_eq (map (λ (q : Reading). q.key) (cond b (r ∷ filter test rs) (filter test rs)))
    go true apart rest = (apart, rest)
    go false apart rest = rest

pub series_distinct : (page : Page) → HasDistinctKeys page → HasDistinctKeys (without_info page)
series_distinct page once = subst (λ (rs : List Reading). IsDistinct key_eq (map (λ (r : Reading). r.key) rs)) (sym (series_are page)) (distinct_left is_series (all_readings page) once)

-- the keys of a page as it is shown are those of the page
pub shown_distinct : (page : Page) → HasDistinctKeys page → HasDistinctKeys (shown_page page)
shown_distinct page once = subst (IsDistinct key_eq) (sym (ap (map (λ (r : Reading). r.key)) (filled_readings (without_exemplars page) ∙ bare_readings page) ∙ bare_keys (all_readings page))) once
  where
    bare_keys : (rs : List Reading) → map (λ (r : Reading). r.key) (map bare_of_exemplars rs) ≡ map (λ (r : Reading). r.key) rs
    bare_keys [] = refl
    bare_keys (r ∷ rs) = ap (λ (ks : List SeriesKey). r.key ∷ ks) (bare_keys rs)

-- ---- marks

own_of : (honor : Bool) (stamp : Option ℕ) → is_some (cond honor stamp None) ≡ (honor && is_some stamp)
own_of true stamp = refl
own_of false stamp = refl

pub marks_are : (t : Tracking) (honor : Bool) (page : Page) → t.honor ≡ honor → marks_where honor (all_readings page) ≡ marks_of t page
marks_are t honor page same = sym (λ i. map (λ (r : Reading). record { key = r.key; own = (own_of t.honor r.stamp ∙ ap (λ (h : Bool). h && is_some r.stamp) same) i }) (filter (λ (r : Reading). has_points r.key.kind) (all_readings page)))
