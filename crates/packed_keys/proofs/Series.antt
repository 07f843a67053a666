-- Packed keys of series, and their places in a list.
use Rattle.std.proofs.Common.{◌≡◌, ℕ, zero, suc, Bool, true, false, ◌||◌, ◌&&◌, List, [], ◌∷◌, ◌++◌, Option, Some, None, option_map, refl, sym, ap, subst, ◌∙◌, ◌==◌, arith, append_assoc}
use Rattle.std.specs.Prelude.{MatchOption, slice_get, Result, Ok, Err, OnOk}
use Rattle.std.specs.List.{list_any, IsDistinct, AllByRecursion}
use Rattle.std.specs.Str.{bytes_eq}
use Rattle.std.specs.Cmp.Lexicographic.{bytes_decides}
use Rattle.std.proofs.lemmas.Bool.Decides.{nat_tests}
use Rattle.std.proofs.lemmas.List.{map-append}
use Rattle.std.proofs.lemmas.List.Folds.{list_any-append}
use Rattle.std.proofs.lemmas.Option.{slice_get-map, same_Some}
use Rattle.std.proofs.lemmas.Bool.{or_left}
use Rattle.std.proofs.Math.Bool.{or-false}
use Rattle.label_sets.specs.declared.series_key.SeriesKey.{SeriesKey}
use Rattle.label_sets.specs.Keys.{kind_place, kind_eq, key_eq}
use Rattle.label_sets.specs.Labels.{label_sets_eq}
use Rattle.label_sets.proofs.Laws.{kind_decides, key_decides, same_tests}
use Rattle.byte_table.proofs.Laws.{among}
use Rattle.packed_keys.specs.Packing.{part_bytes, labels_bytes, part_at, labels_in, series_bytes}
use Rattle.packed_keys.specs.Places.{IsPlace, AreBytesOf, is_of_kind, AreNotOfKind}
use Rattle.packed_keys.proofs.Packed.{part_back, set_back}

-- ---- no two keys have the same bytes

first : List ℕ → ℕ
first [] = 0
first (b ∷ bs) = b

behind_first : List ℕ → List ℕ
behind_first [] = []
behind_first (b ∷ bs) = bs

one_kind : (a b : SeriesKey) → kind_place a.kind ≡ kind_place b.kind → a.kind ≡ b.kind
one_kind a b e = (kind_decides a.kind b.kind).0 (rw e (same_place (kind_place b.kind)))
  where
    same_place : (n : ℕ) → (n == n) ≡ true
    same_place n = grind (arith, nat_tests)

pub same_bytes : (a b : SeriesKey) → series_bytes a ≡ series_bytes b → a ≡ b
unfolding series_bytes first behind_first
same_bytes a b e =
    let kinds : kind_place a.kind ≡ kind_place b.kind = ap first e in
    let parts : part_bytes a.name ++ (part_bytes a.unit ++ labels_bytes a.labels) ≡ part_bytes b.name ++ (part_bytes b.unit ++ labels_bytes b.labels) = ap behind_first e in
    let names : (a.name, part_bytes a.unit ++ labels_bytes a.labels) ≡ (b.name, part_bytes b.unit ++ labels_bytes b.labels)
    = sym (part_back a.name (part_bytes a.unit ++ labels_bytes a.labels)) ∙ (ap part_at parts ∙ part_back b.name (part_bytes b.unit ++ labels_bytes b.labels)) in
    let units : (a.unit, labels_bytes a.labels) ≡ (b.unit, labels_bytes b.labels)
    = sym (part_back a.unit (labels_bytes a.labels)) ∙ (ap part_at (ap (λ (p : List ℕ × List ℕ). p.1) names) ∙ part_back b.unit (labels_bytes b.labels)) in
    let sets : a.labels ≡ b.labels = sym (set_back a.labels) ∙ (ap labels_in (ap (λ (p : List ℕ × List ℕ). p.1) units) ∙ set_back b.labels) in
    let name : a.name ≡ b.name = ap (λ (p : List ℕ × List ℕ). p.0) names in
    let unit : a.unit ≡ b.unit = ap (λ (p : List ℕ × List ℕ). p.0) units in
    let kind : a.kind ≡ b.kind = one_kind a b kinds in
    λ i. record { name = name i; kind = kind i; unit = unit i; labels = sets i }

one_test : (a b : SeriesKey) → bytes_eq (series_bytes a) (series_bytes b) ≡ key_eq a b
one_test a b = same_tests (bytes_eq (series_bytes a) (series_bytes b)) (key_eq a b)
    (λ t. (key_decides a b).1 (same_bytes a b ((bytes_decides (series_bytes a) (series_bytes b)).0 t)))
    (λ t. (bytes_decides (series_bytes a) (series_bytes b)).1 (ap series_bytes ((key_decides a b).0 t)))

-- ---- keys that stand once

-- what stands in front of a last key that is not among it stands once
pub front_once : (keys : List SeriesKey) (key : SeriesKey) → IsDistinct key_eq (keys ++ key ∷ []) → IsDistinct key_eq keys × (list_any (key_eq key) keys ≡ false)
unfolding IsDistinct
front_once [] key once = (tt, refl)
front_once (k ∷ keys) key once =
    let later = front_once keys key once.1 in
    let apart = without_last k keys key once.0 in
    ((apart.0, later.0), both (key_eq key k) (other_way k key apart.1) later.1)
  where
    without_last : (k : SeriesKey) (keys : List SeriesKey) (key : SeriesKey) → AllByRecursion (λ y. key_eq k y ≡ false) (keys ++ key ∷ []) → AllByRecursion (λ y. key_eq k y ≡ false) keys × (key_eq k key ≡ false)
    without_last k [] key all = (tt, all.0)
    without_last k (x ∷ keys) key all = let rest = without_last k keys key all.1 in ((all.0, rest.0), rest.1)

    other_way : (a b : SeriesKey) → key_eq a b ≡ false → key_eq b a ≡ false
    other_way a b e = sym (same_tests (key_eq a b) (key_eq b a) (λ t. (key_decides b a).1 (sym ((key_decides a b).0 t))) (λ t. (key_decides a b).1 (sym ((key_decides b a).0 t)))) ∙ e

    both : (a : Bool) {b : Bool} → a ≡ false → b ≡ false → (a || b) ≡ false
    both true e f = absurd cc
    both false e f = f

-- ---- the bytes of more and more keys

pub no_keys : (strings : List (List ℕ)) → strings ≡ [] → AreBytesOf [] strings
no_keys strings e = record { there = λ key. rw e refl; once = λ once. e }

-- one key more was put in
pub one_key : (keys : List SeriesKey) (key : SeriesKey) (old new : List (List ℕ)) (found : Option ℕ) → AreBytesOf keys old
    → MatchOption found (list_any (bytes_eq (series_bytes key)) old ≡ false) (λ at. slice_get old at ≡ Some (series_bytes key))
    → MatchOption found (new ≡ old ++ series_bytes key ∷ []) (λ at. new ≡ old) → AreBytesOf (keys ++ key ∷ []) new
one_key keys key old new None are fresh added = record {
  there = λ k. rw (added, list_any-append (bytes_eq (series_bytes k)) old (series_bytes key ∷ []), list_any-append (key_eq k) keys (key ∷ []), are.there k, one_test k key) refl;
  once = λ once. added ∙ (ap (λ (ss : List (List ℕ)). ss ++ series_bytes key ∷ []) (are.once (front_once keys key once).0) ∙ sym (map-append series_bytes keys (key ∷ [])));
}
one_key keys key old new (Some at) are known same = record {
  there = λ k. rw (same, are.there k, list_any-append (key_eq k) keys (key ∷ [])) (nothing_new k (key_eq k key) refl);
  once = λ once. absurd (let f : true ≡ false = sym stands ∙ (front_once keys key once).1 in cc);
}
  where
    stands : list_any (key_eq key) keys ≡ true
    stands = sym (are.there key) ∙ among old (series_bytes key) at known

    nothing_new : (k : SeriesKey) (b : Bool) → key_eq k key ≡ b → list_any (key_eq k) keys ≡ (list_any (key_eq k) keys || (key_eq k key || false))
    nothing_new k true e = let is : k ≡ key = (key_decides k key).0 e in let t : list_any (key_eq k) keys ≡ true = subst (λ (x : SeriesKey). list_any (key_eq x) keys ≡ true) (sym is) stands in rw t refl
    nothing_new k false e = rw e (sym (or-false (list_any (key_eq k) keys)))

-- ---- where a key stands

place_some : (o : Option SeriesKey) (key : SeriesKey) → option_map series_bytes o ≡ Some (series_bytes key) → o ≡ Some key
place_some None key e = absurd cc
place_some (Some k) key e = ap Some (same_bytes k key (same_Some (series_bytes k) (series_bytes key) e))

pub found_place : (keys : List SeriesKey) (key : SeriesKey) (strings : List (List ℕ)) (found : Option ℕ) → AreBytesOf keys strings
    → MatchOption found (list_any (bytes_eq (series_bytes key)) strings ≡ false) (λ at. slice_get strings at ≡ Some (series_bytes key)) → IsPlace keys key found
found_place keys key strings None are absent = record { there = sym absent ∙ are.there key; place = λ once. tt }
found_place keys key strings (Some at) are is = record {
  there = sym (among strings (series_bytes key) at is) ∙ are.there key;
  place = λ once. place_some (slice_get keys at) key (sym (slice_get-map series_bytes keys at) ∙ (ap (λ (ss : List (List ℕ)). slice_get ss at) (sym (are.once once)) ∙ is));
}

stands_at : (keys : List SeriesKey) (key : SeriesKey) (at : ℕ) → slice_get keys at ≡ Some key → list_any (key_eq key) keys ≡ true
stands_at [] key at e = absurd cc
stands_at (k ∷ keys) key zero e = or_left (key_eq key k) (list_any (key_eq key) keys) ((key_decides key k).1 (sym (same_Some k key e)))
stands_at (k ∷ keys) key (suc at) e = rest (key_eq key k) (stands_at keys key at e)
  where
    rest : (b : Bool) {c : Bool} → c ≡ true → (b || c) ≡ true
    rest true e = refl
    rest false e = e

pub next_place : (keys : List SeriesKey) (key : SeriesKey) (at : ℕ) → slice_get keys at ≡ Some key → IsPlace keys key (Some at)
next_place keys key at e = record { there = sym (stands_at keys key at e); place = λ once. e }

-- a key of whose kind no key is stands nowhere
no_kind : (keys : List SeriesKey) (key : SeriesKey) → AreNotOfKind keys key.kind → list_any (key_eq key) keys ≡ false
no_kind [] key none = refl
no_kind (k ∷ keys) key none = by (bytes_eq key.name k.name) (kind_eq key.kind k.kind) (no_kind keys key) none
  where
    by : (names kinds : Bool) → (AreNotOfKind keys key.kind → list_any (key_eq key) keys ≡ false) → (kinds || list_any (is_of_kind key.kind) keys) ≡ false
        → ((names && kinds && bytes_eq key.unit k.unit && label_sets_eq key.labels k.labels) || list_any (key_eq key) keys) ≡ false
    by names true rest none = absurd cc
    by true false rest none = rest none
    by false false rest none = rest none

pub no_place : (keys : List SeriesKey) (key : SeriesKey) → AreNotOfKind keys key.kind → IsPlace keys key None
no_place keys key none = record { there = sym (no_kind keys key none); place = λ once. tt }

-- ---- packing

-- kind, name, unit and labels, one behind the other
pub series_added : {A E : Type 0} (start kind name unit all : List ℕ) (key : SeriesKey) (r : Result A E) → kind ≡ start ++ kind_place key.kind ∷ [] → name ≡ kind ++ part_bytes key.name → unit ≡ name ++ part_bytes key.unit
    → OnOk r (all ≡ unit ++ labels_bytes key.labels) → OnOk r (all ≡ start ++ series_bytes key)
unfolding series_bytes
series_added start kind name unit all key (Ok u) k n t l =
    l ∙ (ap (λ (xs : List ℕ). xs ++ labels_bytes key.labels) (t ∙ ap (λ (xs : List ℕ). xs ++ part_bytes key.unit) (n ∙ ap (λ (xs : List ℕ). xs ++ part_bytes key.name) k))
    ∙ (append_assoc (start ++ kind_place key.kind ∷ [] ++ part_bytes key.name) (part_bytes key.unit) (labels_bytes key.labels)
    ∙ (append_assoc (start ++ kind_place key.kind ∷ []) (part_bytes key.name) (part_bytes key.unit ++ labels_bytes key.labels)
    ∙ append_assoc start (kind_place key.kind ∷ []) (part_bytes key.name ++ (part_bytes key.unit ++ labels_bytes key.labels)))))
series_added start kind name unit all key (Err e) k n t l = tt

-- what was packed is looked for
pub find_packed : (strings : List (List ℕ)) (slice bytes : List ℕ) (found : Option ℕ) → slice ≡ bytes → MatchOption found (list_any (bytes_eq slice) strings ≡ false) (λ at. slice_get strings at ≡ Some slice)
    → MatchOption found (list_any (bytes_eq bytes) strings ≡ false) (λ at. slice_get strings at ≡ Some bytes)
find_packed strings slice bytes found e is = subst (λ (s : List ℕ). MatchOption found (list_any (bytes_eq s) strings ≡ false) (λ at. slice_get strings at ≡ Some s)) e is
