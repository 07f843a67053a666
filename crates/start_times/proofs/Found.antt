-- The row of a series, by the place of its key; and the marks of the rows that were found.
use Rattle.std.proofs.Common.{◌≡◌, ℕ, zero, suc, Bool, true, false, ◌||◌, List, [], ◌∷◌, ◌++◌, map, zip, length, Option, Some, None, is_some, option_and_then, refl, sym, ap, subst, ◌∙◌, arith}
use Rattle.std.specs.Prelude.{MatchOption, slice_get, slice_set}
use Rattle.std.specs.List.{list_any, IsDistinct, AllByRecursion}
use Rattle.std.specs.Map.{lookup}
use Rattle.std.specs.Cmp.{IsEquivalence}
use Rattle.std.proofs.lemmas.List.Folds.{list_any-append}
use Rattle.std.proofs.lemmas.Option.{same_Some}
use Rattle.std.proofs.lemmas.Map.Entries.{lookup_from_place}
use Rattle.std.proofs.lemmas.Map.Made.{keys_of-zip, is_some-lookup}
use Rattle.std.proofs.lemmas.Bool.{or_parts}
use Rattle.label_sets.specs.declared.series_key.SeriesKey.{SeriesKey}
use Rattle.label_sets.specs.Keys.{key_eq}
use Rattle.label_sets.proofs.Laws.{key_decides, same_tests}
use Rattle.packed_keys.specs.Places.{IsPlace}
use Rattle.start_times.specs.declared.row.Row.{Row}

-- ---- equal keys

pub key_equal : (a b : SeriesKey) → key_eq a b ≡ true → a ≡ b
key_equal a b e = (key_decides a b).0 e

pub key_itself : (a : SeriesKey) → key_eq a a ≡ true
key_itself a = (key_decides a a).1 refl

pub key_turned : (a b : SeriesKey) → key_eq a b ≡ key_eq b a
key_turned a b = same_tests (key_eq a b) (key_eq b a) (λ t. (key_decides b a).1 (sym (key_equal a b t))) (λ t. (key_decides a b).1 (sym (key_equal b a t)))

pub key_laws : IsEquivalence key_eq
key_laws = record { refl = key_itself; symm = key_turned; congr = λ x y z e. ap (λ (k : SeriesKey). key_eq k z) (key_equal x y e) }

-- ---- tests

or_nothing : (a b : Bool) → b ≡ false → (a || (b || false)) ≡ a
or_nothing true b e = refl
or_nothing false b e = rw e refl

or_this : (a b : Bool) → b ≡ true → (a || (b || false)) ≡ true
or_this true b e = refl
or_this false b e = rw e refl

none_of : {A : Type 0} (o : Option A) → is_some o ≡ false → None ≡ o
none_of None e = refl
none_of (Some x) e = absurd cc

-- ---- the row at a place

at_zip : (ks : List SeriesKey) (rs : List Row) (at : ℕ) (k : SeriesKey) → length ks ≡ length rs → slice_get ks at ≡ Some k → (r : Row) × (slice_get rs at ≡ Some r) × (slice_get (zip ks rs) at ≡ Some (k, r))
at_zip [] rs at k even is = absurd cc
at_zip (x ∷ ks) [] at k even is = absurd (omega arith)
at_zip (x ∷ ks) (r ∷ rs) zero k even is = (r, refl, ap (λ (y : SeriesKey). Some (y, r)) (same_Some x k is))
at_zip (x ∷ ks) (r ∷ rs) (suc at) k even is = at_zip ks rs at k (omega arith) is

-- the row at the place of a key is the one that is kept of it
pub row_found : (ks : List SeriesKey) (rs : List Row) (key : SeriesKey) (found : Option ℕ) → length ks ≡ length rs → IsDistinct key_eq ks → IsPlace ks key found
    → option_and_then (slice_get rs) found ≡ lookup (key_eq key) (zip ks rs)
row_found ks rs key None even once is =
    none_of (lookup (key_eq key) (zip ks rs)) (is_some-lookup (key_eq key) (zip ks rs) ∙ (ap (list_any (key_eq key)) (keys_of-zip ks rs (sym even)) ∙ sym is.there))
row_found ks rs key (Some at) even once is =
    let row = at_zip ks rs at key even (is.place once) in
    row.1 ∙ sym (lookup_from_place key_laws (zip ks rs) at key row.0 (subst (IsDistinct key_eq) (sym (keys_of-zip ks rs (sym even))) once) row.2)

-- ---- marks

-- the series has one of these keys
abbrev pub is_among : List SeriesKey → SeriesKey → Bool
is_among fresh key = list_any (key_eq key) fresh

not_more : (fresh : List SeriesKey) (key k : SeriesKey) → key_eq key k ≡ false → is_among fresh k ≡ is_among (fresh ++ key ∷ []) k
not_more fresh key k apart = sym (list_any-append (key_eq k) fresh (key ∷ []) ∙ or_nothing (is_among fresh k) (key_eq k key) (key_turned k key ∙ apart))

none_more : (ks fresh : List SeriesKey) (key : SeriesKey) → list_any (key_eq key) ks ≡ false → map (is_among fresh) ks ≡ map (is_among (fresh ++ key ∷ [])) ks
none_more [] fresh key absent = refl
none_more (k ∷ ks) fresh key absent =
    let parts = or_parts (key_eq key k) (list_any (key_eq key) ks) absent in
    rw (not_more fresh key k parts.0, none_more ks fresh key parts.1) refl

all_apart : (k : SeriesKey) (ks : List SeriesKey) → AllByRecursion (λ y. key_eq k y ≡ false) ks → list_any (key_eq k) ks ≡ false
all_apart k [] all = refl
all_apart k (x ∷ ks) all = rw (all.0, all_apart k ks all.1) refl

apart_from : (k key : SeriesKey) (ks : List SeriesKey) (at : ℕ) → AllByRecursion (λ y. key_eq k y ≡ false) ks → slice_get ks at ≡ Some key → key_eq k key ≡ false
apart_from k key [] at all is = absurd cc
apart_from k key (x ∷ ks) zero all is = subst (λ (y : SeriesKey). key_eq k y ≡ false) (same_Some x key is) all.0
apart_from k key (x ∷ ks) (suc at) all is = apart_from k key ks at all.1 is

one_more : (ks fresh : List SeriesKey) (key : SeriesKey) (at : ℕ) → IsDistinct key_eq ks → slice_get ks at ≡ Some key → slice_set (map (is_among fresh) ks) at true ≡ map (is_among (fresh ++ key ∷ [])) ks
unfolding IsDistinct
one_more [] fresh key at once is = absurd cc
one_more (k ∷ ks) fresh key zero once is =
    let same : k ≡ key = same_Some k key is in
    let here : is_among (fresh ++ key ∷ []) k ≡ true = list_any-append (key_eq k) fresh (key ∷ []) ∙ or_this (is_among fresh k) (key_eq k key) ((key_decides k key).1 same) in
    let rest : map (is_among fresh) ks ≡ map (is_among (fresh ++ key ∷ [])) ks = none_more ks fresh key (subst (λ (y : SeriesKey). list_any (key_eq y) ks ≡ false) same (all_apart k ks once.0)) in
    rw (here, rest) refl
one_more (k ∷ ks) fresh key (suc at) once is =
    let here : is_among fresh k ≡ is_among (fresh ++ key ∷ []) k = not_more fresh key k (key_turned key k ∙ apart_from k key ks at once.0 is) in
    rw (← here) (ap (λ (bs : List Bool). is_among fresh k ∷ bs) (one_more ks fresh key at once.1 is))

-- the marks with the row that was found, where one was
pub marked : (ks fresh : List SeriesKey) (key : SeriesKey) (found : Option ℕ) (marks new : List Bool) → IsDistinct key_eq ks → IsPlace ks key found → marks ≡ map (is_among fresh) ks
    → MatchOption found (new ≡ marks) (λ at. new ≡ slice_set marks at true) → new ≡ map (is_among (fresh ++ key ∷ [])) ks
marked ks fresh key None marks new once is e same = same ∙ (e ∙ none_more ks fresh key (sym is.there))
marked ks fresh key (Some at) marks new once is e set_at = set_at ∙ (ap (λ (bs : List Bool). slice_set bs at true) e ∙ one_more ks fresh key at once (is.place once))
