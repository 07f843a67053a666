-- Right pages: the page of a text is one, and the keys of each are distinct.
use Rattle.std.proofs.Common.{◌≡◌, ℕ, true, false, List, [], ◌∷◌, ◌++◌, map, None, refl, sym, subst, inl, inr}
use Rattle.std.specs.List.{AllByRecursion, IsDistinct, flat_map}
use Rattle.std.proofs.lemmas.List.{map-append}
use Rattle.label_sets.specs.declared.series_key.SeriesKey.{SeriesKey}
use Rattle.label_sets.specs.Keys.{key_eq}
use Rattle.page_lines.specs.Lines.{lines_of, ends_clean}
use Rattle.page_model.specs.declared.format.Treatment.{Treatment}
use Rattle.page_model.specs.declared.page.Reading.{Reading}
use Rattle.page_model.specs.declared.page.Family.{Family}
use Rattle.page_model.specs.PageValues.{PageValue}
use Rattle.page_model.specs.Written.{Setting, text_setting}
use Rattle.page_model.specs.Pages.{IsPageOf, AreSomeOf, IsThinnerReading, IsThinnerFamily, AreThinnerFamilies, IsPageRead, IsRightPage}
use Rattle.page_model.specs.Owners.{owned_lines}
use Rattle.page_model.specs.Rules.{is_without_eof, leaves_incomplete}
use Rattle.page_model.specs.Faults.{end_breaks, end_fault, fault_from, fault_of}
use Rattle.page_model.specs.Readings.{families_of, page_of}
use Rattle.page_model.specs.Presence.{empty_page, keys_of}
use Rattle.page_model.proofs.DistinctKeys.{page-distinct_keys}
use Rattle.page_model.proofs.SomeOf.{all_of, none_of, some_skipped}

-- ---- nothing is taken out

whole_reading : (r : Reading) → IsThinnerReading r r
whole_reading r = record { key = refl; value = refl; created = refl; stamp = inl refl; exemplars = all_of (λ a b. b ≡ a) (λ x. refl) r.exemplars }

pub whole_family : (f : Family) → IsThinnerFamily f f
whole_family f = record { name = refl; kind = refl; help = refl; unit = refl; readings = all_of IsThinnerReading whole_reading f.readings }

-- the page of a text is right
pub text_is_right : (st : Setting) (bytes : List ℕ) (page : PageValue) → IsPageOf st bytes page → IsPageRead st page
text_is_right st bytes page p = record { text = bytes; whole = page; read = p; families = all_of IsThinnerFamily whole_family page.families; samples = refl }

nothing_broken : (treatment : Treatment) (limit : ℕ) → fault_of (text_setting treatment limit) [] true ≡ None
unfolding fault_from end_fault end_breaks is_without_eof owned_lines leaves_incomplete
nothing_broken treatment limit = refl

nothing_said : (treatment : Treatment) (limit : ℕ) → empty_page ≡ page_of (text_setting treatment limit) []
unfolding page_of owned_lines families_of
nothing_said treatment limit = refl

-- the page without families is right
pub nothing_is_right : (treatment : Treatment) (limit : ℕ) → IsPageRead (text_setting treatment limit) empty_page
unfolding lines_of ends_clean
nothing_is_right treatment limit = text_is_right (text_setting treatment limit) [] empty_page (record { lines = []; are_lines = tt; without_fault = nothing_broken treatment limit; page_is = nothing_said treatment limit })

-- ---- keys that are left

-- the keys of readings
abbrev keys : List Reading → List SeriesKey
keys rs = map (λ (r : Reading). r.key) rs

-- the second list is what is left of the first
abbrev AreLeft : List SeriesKey → List SeriesKey → Type 0
AreLeft ks ls = AreSomeOf (λ a b. b ≡ a) ks ls

keys_left : (rs ss : List Reading) → AreSomeOf IsThinnerReading rs ss → AreLeft (keys rs) (keys ss)
keys_left [] [] h = tt
keys_left [] (s ∷ ss) h = absurd h
keys_left (r ∷ rs) [] h = keys_left rs [] h
keys_left (r ∷ rs) (s ∷ ss) (inl h) = inl (h.0.key, keys_left rs ss h.1)
keys_left (r ∷ rs) (s ∷ ss) (inr h) = inr (keys_left rs (s ∷ ss) h)

-- what is left of two lists in a row
left_append : (js ks ls ms : List SeriesKey) → AreLeft js ls → AreLeft ks ms → AreLeft (js ++ ks) (ls ++ ms)
left_append [] ks [] ms g h = h
left_append [] ks (l ∷ ls) ms g h = absurd g
left_append (j ∷ js) ks [] ms g h = some_skipped (λ a b. b ≡ a) j (js ++ ks) ms (left_append js ks [] ms g h)
left_append (j ∷ js) ks (l ∷ ls) ms (inl g) h = inl (g.0, left_append js ks ls ms g.1 h)
left_append (j ∷ js) ks (l ∷ ls) ms (inr g) h = inr (left_append js ks (l ∷ ls) ms g h)

readings_in : List Family → List Reading
readings_in fs = flat_map (λ (f : Family). f.readings) fs

-- a family that is taken out
taken_out : (f : Family) (fs : List Family) (ls : List SeriesKey) → AreLeft (keys (readings_in fs)) ls → AreLeft (keys (readings_in (f ∷ fs))) ls
unfolding readings_in
taken_out f fs ls h = rw (map-append (λ (r : Reading). r.key) f.readings (readings_in fs)) (left_append (keys f.readings) (keys (readings_in fs)) [] ls (none_of (λ a b. b ≡ a) (keys f.readings)) h)

families_left : (fs gs : List Family) → AreThinnerFamilies fs gs → AreLeft (keys (readings_in fs)) (keys (readings_in gs))
unfolding readings_in
families_left [] [] h = tt
families_left [] (g ∷ gs) h = absurd h
families_left (f ∷ fs) [] h = taken_out f fs [] (families_left fs [] h)
families_left (f ∷ fs) (g ∷ gs) (inl h) =
    let here = keys_left f.readings g.readings h.0.readings in
    let both = left_append (keys f.readings) (keys (readings_in fs)) (keys g.readings) (keys (readings_in gs)) here (families_left fs gs h.1) in
    rw (map-append (λ (r : Reading). r.key) f.readings (readings_in fs), map-append (λ (r : Reading). r.key) g.readings (readings_in gs)) both
families_left (f ∷ fs) (g ∷ gs) (inr h) = taken_out f fs (keys (readings_in (g ∷ gs))) (families_left fs (g ∷ gs) h)

all_left : (P : SeriesKey → Type 0) (ks ls : List SeriesKey) → AreLeft ks ls → AllByRecursion P ks → AllByRecursion P ls
all_left P [] [] h a = tt
all_left P [] (l ∷ ls) h a = absurd h
all_left P (k ∷ ks) [] h a = tt
all_left P (k ∷ ks) (l ∷ ls) (inl h) a = (subst P (sym h.0) a.0, all_left P ks ls h.1 a.1)
all_left P (k ∷ ks) (l ∷ ls) (inr h) a = all_left P ks (l ∷ ls) h a.1

distinct_left : (ks ls : List SeriesKey) → AreLeft ks ls → IsDistinct key_eq ks → IsDistinct key_eq ls
unfolding IsDistinct
distinct_left [] [] h d = tt
distinct_left [] (l ∷ ls) h d = absurd h
distinct_left (k ∷ ks) [] h d = tt
distinct_left (k ∷ ks) (l ∷ ls) (inl h) d =
    (subst (λ m. AllByRecursion (λ y. key_eq m y ≡ false) ls) (sym h.0) (all_left (λ y. key_eq k y ≡ false) ks ls h.1 d.0), distinct_left ks ls h.1 d.1)
distinct_left (k ∷ ks) (l ∷ ls) (inr h) d = distinct_left ks (l ∷ ls) h d.1

-- the keys of a right page are distinct
pub right-distinct_keys : (page : PageValue) → IsRightPage page → IsDistinct key_eq (keys_of page)
unfolding readings_in
right-distinct_keys page right =
    let read = right.1 in
    distinct_left (keys_of read.whole) (keys_of page) (families_left read.whole.families page.families read.families) (page-distinct_keys right.0 read.text read.whole read.read)
