-- Readings that were seen, one more and one more.
use Rattle.std.proofs.Common.{◌≡◌, ℕ, Bool, true, false, List, [], ◌∷◌, ◌++◌, map, zip, filter, length, replicate, cond, Option, Some, None, option_and_then, refl, sym, ap, subst, ◌∙◌}
use Rattle.std.specs.Prelude.{MatchOption, IfSome, slice_get, slice_set}
use Rattle.std.specs.List.{IsDistinct}
use Rattle.std.specs.Map.{lookup, keys_of}
use Rattle.std.proofs.lemmas.List.{append-nil, map-append}
use Rattle.std.proofs.lemmas.List.Elements.{filter-append}
use Rattle.std.proofs.lemmas.Map.Made.{keys_of-zip}
use Rattle.label_sets.specs.declared.series_key.SeriesKey.{SeriesKey}
use Rattle.label_sets.specs.Keys.{key_eq}
use Rattle.page_model.specs.declared.page.Reading.{Reading}
use Rattle.packed_keys.specs.Places.{IsPlace}
use Rattle.start_times.specs.declared.row.Row.{Row}
use Rattle.start_times.specs.declared.row.Placed.{Placed}
use Rattle.start_times.specs.declared.sighting.Sighting.{Sighting}
use Rattle.start_times.specs.Starts.{has_points, time_where}
use Rattle.start_times.specs.Rows.{placed_beside, row_now, row_start, kept_start}
use Rattle.start_times.specs.Filling.{Filled, with_entries}
use Rattle.start_times.specs.Sightings.{Saw, Sees, placed_in, sighted_entry, is_kept_reading, is_read}
use Rattle.start_times.proofs.Found.{marked, is_among, row_found}

-- these entries, behind these series
abbrev filled : List SeriesKey → List (SeriesKey × Row) → Filled
filled before list = record { before = before; list = list }

-- ---- nothing seen

no_marks : (keys : List SeriesKey) → replicate (length keys) false ≡ map (is_read []) keys
no_marks [] = refl
no_marks (key ∷ keys) = ap (λ (bs : List Bool). false ∷ bs) (no_marks keys)

pub saw_nothing : (honor : Bool) (rows : List (SeriesKey × Row)) (moment : ℕ) (keys : List SeriesKey) (s : Sighting) → keys ≡ keys_of rows → s.starts.items ≡ [] → s.entries ≡ record { before = keys; list = [] }
    → s.found.items ≡ replicate (length keys) false → Saw honor rows moment [] s
saw_nothing honor rows moment keys s same starts entries found = record {
  starts = starts;
  entries = entries ∙ ap (λ (ks : List SeriesKey). filled ks []) same;
  found = found ∙ (no_marks keys ∙ ap (map (is_read [])) same);
}

-- ---- one reading more

counted : (front : List Reading) (r : Reading) → has_points r.key.kind ≡ true → filter is_kept_reading (front ++ r ∷ []) ≡ filter is_kept_reading front ++ r ∷ []
counted front r e = filter-append is_kept_reading front (r ∷ []) ∙ ap (λ (b : Bool). filter is_kept_reading front ++ cond b (r ∷ []) []) e

passed : (front : List Reading) (r : Reading) → has_points r.key.kind ≡ false → filter is_kept_reading (front ++ r ∷ []) ≡ filter is_kept_reading front
passed front r e = filter-append is_kept_reading front (r ∷ []) ∙ (ap (λ (b : Bool). filter is_kept_reading front ++ cond b (r ∷ []) []) e ∙ append-nil (filter is_kept_reading front))

-- a reading of a kind without points
pub saw_without : (honor : Bool) (rows : List (SeriesKey × Row)) (moment : ℕ) (front : List Reading) (r : Reading) (s next : Sighting) → has_points r.key.kind ≡ false → next.starts.items ≡ s.starts.items ++ None ∷ []
    → next.entries ≡ s.entries → next.found.items ≡ s.found.items → Saw honor rows moment front s → Saw honor rows moment (front ++ r ∷ []) next
unfolding placed_in
saw_without honor rows moment front r s next e starts entries found saw = record {
  starts = starts ∙ (ap (λ (os : List (Option Placed)). os ++ None ∷ []) saw.starts ∙ (ap (λ (o : Option Placed). map (placed_in honor rows moment) front ++ o ∷ []) none ∙ sym (map-append (placed_in honor rows moment) front (r ∷ []))));
  entries = entries ∙ (saw.entries ∙ ap (λ (rs : List Reading). filled (keys_of rows) (map (sighted_entry honor rows moment) rs)) (sym (passed front r e)));
  found = found ∙ (saw.found ∙ ap (λ (rs : List Reading). map (is_read rs) (keys_of rows)) (sym (passed front r e)));
}
  where
    none : None ≡ placed_in honor rows moment r
    none = rw e refl

-- a reading of a kind with points
pub saw_with : (honor : Bool) (rows : List (SeriesKey × Row)) (moment : ℕ) (front : List Reading) (r : Reading) (s next : Sighting) (placed : Placed) (row : Row) (at : Option ℕ) → has_points r.key.kind ≡ true → IsDistinct key_eq (keys_of rows)
    → IsPlace (keys_of rows) r.key at → placed ≡ placed_beside (lookup (key_eq r.key) rows) (time_where honor moment r) r → row ≡ row_now (lookup (key_eq r.key) rows) (time_where honor moment r) r
    → next.starts.items ≡ s.starts.items ++ Some placed ∷ [] → next.entries ≡ with_entries s.entries ((r.key, row) ∷ [])
    → MatchOption at (next.found.items ≡ s.found.items) (λ place. next.found.items ≡ slice_set s.found.items place true) → Saw honor rows moment front s → Saw honor rows moment (front ++ r ∷ []) next
unfolding placed_in
saw_with honor rows moment front r s next placed row at e once place placed_is row_is starts entries found saw = record {
  starts = starts ∙ (ap (λ (os : List (Option Placed)). os ++ Some placed ∷ []) saw.starts ∙ (ap (λ (o : Option Placed). map (placed_in honor rows moment) front ++ o ∷ []) given ∙ sym (map-append (placed_in honor rows moment) front (r ∷ []))));
  entries = entries ∙ (ap (λ (f : Filled). with_entries f ((r.key, row) ∷ [])) saw.entries ∙ ap (filled (keys_of rows)) (ap (λ (x : Row). map (sighted_entry honor rows moment) (filter is_kept_reading front) ++ (r.key, x) ∷ []) row_is
      ∙ (sym (map-append (sighted_entry honor rows moment) (filter is_kept_reading front) (r ∷ [])) ∙ ap (map (sighted_entry honor rows moment)) (sym (counted front r e)))));
  found = marked (keys_of rows) fresh r.key at s.found.items next.found.items once place saw.found found
      ∙ (ap (λ (ks : List SeriesKey). map (is_among ks) (keys_of rows)) (sym (map-append (λ (q : Reading). q.key) (filter is_kept_reading front) (r ∷ [])))
      ∙ ap (λ (rs : List Reading). map (is_read rs) (keys_of rows)) (sym (counted front r e)));
}
  where
    fresh : List SeriesKey
    fresh = map (λ (q : Reading). q.key) (filter is_kept_reading front)

    given : Some placed ≡ placed_in honor rows moment r
    given = rw e (ap (λ (p : Placed). Some p) placed_is)

-- ---- several readings

-- a reading of a kind without points, behind any that were seen
pub passed_by : (honor : Bool) (places : List SeriesKey) (rows : List Row) (moment : ℕ) (r : Reading) (s next : Sighting) (pointed : Bool) → pointed ≡ has_points r.key.kind → pointed ≡ false → next.starts.items ≡ s.starts.items ++ None ∷ []
    → next.entries ≡ s.entries → next.found.items ≡ s.found.items → Sees honor (zip places rows) moment (r ∷ []) s next
passed_by honor places rows moment r s next pointed is e starts entries found = λ once front saw. saw_without honor (zip places rows) moment front r s next (sym is ∙ e) starts entries found saw

-- a reading of a kind with points, behind any that were seen
pub seen : (honor : Bool) (places : List SeriesKey) (rows : List Row) (moment : ℕ) (r : Reading) (s next : Sighting) (placed : Placed) (row : Row) (beside : Option Row) (at : Option ℕ) (time : ℕ) (pointed : Bool) (key : SeriesKey) → length places ≡ length rows
    → pointed ≡ has_points r.key.kind → pointed ≡ true → time ≡ time_where honor moment r → IsPlace places r.key at → beside ≡ option_and_then (slice_get rows) at → placed ≡ placed_beside beside time r → row ≡ row_now beside time r → key ≡ r.key
    → next.starts.items ≡ s.starts.items ++ Some placed ∷ [] → (IfSome at (λ place. slice_get s.entries.before place ≡ Some key) → next.entries ≡ with_entries s.entries ((key, row) ∷ [])) → MatchOption at (next.found.items ≡ s.found.items) (λ place. next.found.items ≡ slice_set s.found.items place true)
    → Sees honor (zip places rows) moment (r ∷ []) s next
seen honor places rows moment r s next placed row beside at time pointed key even is e time_is place b placed_is row_is key_is starts entries found = λ once front saw.
    let keys : keys_of (zip places rows) ≡ places = keys_of-zip places rows (sym even) in
    let kept : beside ≡ lookup (key_eq r.key) (zip places rows) = b ∙ row_found places rows r.key at even (subst (IsDistinct key_eq) keys once) place in
    saw_with honor (zip places rows) moment front r s next placed row at (sym is ∙ e) once (subst (λ (ks : List SeriesKey). IsPlace ks r.key at) (sym keys) place)
    (placed_is ∙ (ap (λ (o : Option Row). placed_beside o time r) kept ∙ ap (λ (n : ℕ). placed_beside (lookup (key_eq r.key) (zip places rows)) n r) time_is))
    (row_is ∙ (ap (λ (o : Option Row). row_now o time r) kept ∙ ap (λ (n : ℕ). row_now (lookup (key_eq r.key) (zip places rows)) n r) time_is))
    starts (entries (there s.entries.before (ap (λ (f : Filled). f.before) saw.entries ∙ keys) key key_is (place.place (subst (IsDistinct key_eq) keys once))) ∙ ap (λ (k : SeriesKey). with_entries s.entries ((k, row) ∷ [])) key_is) found saw
  where
    there : (before : List SeriesKey) → before ≡ places → (k : SeriesKey) → k ≡ r.key → IfSome at (λ p. slice_get places p ≡ Some r.key) → IfSome at (λ p. slice_get before p ≡ Some k)
    there before same k is h = subst (λ (ks : List SeriesKey). IfSome at (λ p. slice_get ks p ≡ Some k)) (sym same) (subst (λ (x : SeriesKey). IfSome at (λ p. slice_get places p ≡ Some x)) (sym is) h)

-- the start of the row at a place is the one that is kept
pub start_found : (places : List SeriesKey) (rows : List Row) (key : SeriesKey) (at start : Option ℕ) → length places ≡ length rows → IsDistinct key_eq places → IsPlace places key at
    → start ≡ option_and_then (row_start key) (option_and_then (slice_get rows) at) → start ≡ kept_start (zip places rows) key
start_found places rows key at start even once place is = is ∙ ap (option_and_then (row_start key)) (row_found places rows key at even once place)

-- and so are all of several
pub starts_kept : (entries : List (SeriesKey × Row)) (places : List SeriesKey) (rows : List Row) (keys asked : List SeriesKey) (list items : List (Option ℕ)) → length places ≡ length rows → zip places rows ≡ entries → asked ≡ keys → list ≡ items
    → (IsDistinct key_eq places → items ≡ map (kept_start (zip places rows)) asked) → IsDistinct key_eq (keys_of entries) → list ≡ map (kept_start entries) keys
starts_kept entries places rows keys asked list items even same asked_is is told once =
    is ∙ (told (subst (IsDistinct key_eq) (ap keys_of (sym same) ∙ keys_of-zip places rows (sym even)) once)
    ∙ (ap (λ (es : List (SeriesKey × Row)). map (kept_start es) asked) same ∙ ap (map (kept_start entries)) asked_is))
