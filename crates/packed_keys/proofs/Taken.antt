-- Keys that are taken away from two lists, one more and one more.
use Rattle.std.proofs.Common.{◌≡◌, ℕ, ◌+◌, ◌-◌, ◌≤◌, ◌<◌, Bool, true, false, not, ◌&&◌, ◌||◌, List, [], ◌∷◌, ◌++◌, take, drop, get_or, length, filter, cond, Some, refl, sym, ap, subst, ◌∙◌, arith, append_assoc, zero, suc, Bor}
use Rattle.std.specs.Prelude.{slice_get}
use Rattle.std.specs.List.{IsDistinct, AllByRecursion}
use Rattle.std.proofs.lemmas.List.{append-nil, take_more, take-append-drop, take-take, drop-take, take_rest, take-map, drop-map}
use Rattle.std.proofs.lemmas.List.Elements.{filter-append}
use Rattle.std.proofs.lemmas.List.Folds.{list_any-append}
use Rattle.std.proofs.lemmas.Option.{slice_get_within, get_or_from_slice_get}
use Rattle.std.proofs.lemmas.Bool.{or_parts}
use Rattle.std.proofs.Math.Bool.{or-false, or_assoc}
use Rattle.label_sets.specs.declared.series_key.SeriesKey.{SeriesKey}
use Rattle.label_sets.specs.Keys.{key_eq}
use Rattle.label_sets.proofs.Laws.{key_decides, same_tests}
use Rattle.packed_keys.specs.Partings.{IsParted, is_among, keys_behind}
use Rattle.packed_keys.proofs.Series.{front_once}

-- ---- tests

both_false : (a : Bool) {b : Bool} → a ≡ false → b ≡ false → (a || b) ≡ false
both_false true e f = absurd cc
both_false false e f = f

or_true : (a : Bool) {b : Bool} → b ≡ true → (a || b) ≡ true
or_true true e = refl
or_true false e = e

or_turned : (a b c : Bool) → ((a || b) || c) ≡ ((a || c) || b)
or_turned true b c = refl
or_turned false true true = refl
or_turned false true false = refl
or_turned false false true = refl
or_turned false false false = refl

or_four : (a b c d : Bool) → ((a || b) || (c || d)) ≡ ((a || c) || (b || d))
or_four true b c d = refl
or_four false true true d = refl
or_four false true false d = refl
or_four false false c d = refl

-- ---- keys

turned : (a b : SeriesKey) → key_eq a b ≡ false → key_eq b a ≡ false
turned a b e = sym (same_tests (key_eq a b) (key_eq b a) (λ t. (key_decides b a).1 (sym ((key_decides a b).0 t))) (λ t. (key_decides a b).1 (sym ((key_decides b a).0 t)))) ∙ e

all_more : (P : SeriesKey → Type 0) (keys : List SeriesKey) (key : SeriesKey) → AllByRecursion P keys → P key → AllByRecursion P (keys ++ key ∷ [])
all_more P [] key all p = (p, tt)
all_more P (k ∷ keys) key all p = (all.0, all_more P keys key all.1 p)

all_front : (P : SeriesKey → Type 0) (keys : List SeriesKey) (key : SeriesKey) → AllByRecursion P (keys ++ key ∷ []) → AllByRecursion P keys × P key
all_front P [] key all = (tt, all.0)
all_front P (k ∷ keys) key all = let rest = all_front P keys key all.1 in ((all.0, rest.0), rest.1)

-- what holds of all that is among some keys holds of each of them
all_among : (P : SeriesKey → Type 0) (keys : List SeriesKey) → ((key : SeriesKey) → is_among keys key ≡ true → P key) → AllByRecursion P keys
all_among P [] f = tt
all_among P (k ∷ keys) f = (f k (rw ((key_decides k k).1 refl) refl), all_among P keys (λ key e. f key (or_true (key_eq key k) e)))

-- one key more is taken, and none of the strays is that key
apart_more : (strays taken : List SeriesKey) (key : SeriesKey) → AllByRecursion (λ k. is_among taken k ≡ false) strays → is_among strays key ≡ false → AllByRecursion (λ k. is_among (taken ++ key ∷ []) k ≡ false) strays
apart_more [] taken key all e = tt
apart_more (s ∷ strays) taken key all e =
    let parts = or_parts (key_eq key s) (is_among strays key) e in
    (list_any-append (key_eq s) taken (key ∷ []) ∙ both_false (is_among taken s) all.0 (both_false (key_eq s key) (turned key s parts.0) refl), apart_more strays taken key all.1 parts.1)

-- ---- one key more

pub nothing_parted : (asked keys strays left : List SeriesKey) → asked ≡ [] → keys ≡ [] → strays ≡ [] → left ≡ [] → IsParted asked keys strays left
nothing_parted asked keys strays left a k s l = rw (a, k, s, l) (record { taken = []; asked_are = λ key. refl; keys_are = λ key. refl; in_order = λ test none. refl; apart = λ once. tt })

-- a key that is not near
pub strayed : (asked keys strays left : List SeriesKey) (key : SeriesKey) → IsParted asked keys strays left → IsParted (asked ++ key ∷ []) keys (strays ++ key ∷ []) left
strayed asked keys strays left key p = record {
  taken = p.taken;
  asked_are = λ k. list_any-append (key_eq k) asked (key ∷ []) ∙ (ap (λ (b : Bool). b || is_among (key ∷ []) k) (p.asked_are k)
      ∙ (or_turned (is_among strays k) (is_among p.taken k) (is_among (key ∷ []) k) ∙ ap (λ (b : Bool). b || is_among p.taken k) (sym (list_any-append (key_eq k) strays (key ∷ [])))));
  keys_are = p.keys_are;
  in_order = λ test none. filter-append test asked (key ∷ []) ∙ (ap (λ (ks : List SeriesKey). ks ++ filter test (key ∷ [])) (p.in_order test none) ∙ sym (filter-append test strays (key ∷ [])));
  apart = λ once.
      let front = front_once asked key once in
      all_more (λ k. is_among p.taken k ≡ false) strays key (p.apart front.0) (or_parts (is_among strays key) (is_among p.taken key) (sym (p.asked_are key) ∙ front.1)).1;
}

-- a key that is near, with those before it
pub taken_away : (asked keys strays left skipped : List SeriesKey) (key : SeriesKey) → IsParted asked keys strays left → IsParted (asked ++ key ∷ []) (keys ++ (skipped ++ key ∷ [])) strays (left ++ skipped)
taken_away asked keys strays left skipped key p = record {
  taken = p.taken ++ key ∷ [];
  asked_are = λ k. list_any-append (key_eq k) asked (key ∷ []) ∙ (ap (λ (b : Bool). b || is_among (key ∷ []) k) (p.asked_are k)
      ∙ (or_assoc (is_among strays k) (is_among p.taken k) (is_among (key ∷ []) k) ∙ ap (λ (b : Bool). is_among strays k || b) (sym (list_any-append (key_eq k) p.taken (key ∷ [])))));
  keys_are = λ k.
      let own : is_among (keys ++ (skipped ++ key ∷ [])) k ≡ (is_among keys k || (is_among skipped k || is_among (key ∷ []) k))
      = list_any-append (key_eq k) keys (skipped ++ key ∷ []) ∙ ap (λ (b : Bool). is_among keys k || b) (list_any-append (key_eq k) skipped (key ∷ [])) in
      let lefts : is_among (left ++ skipped) k ≡ (is_among left k || is_among skipped k) = list_any-append (key_eq k) left skipped in
      let takes : is_among (p.taken ++ key ∷ []) k ≡ (is_among p.taken k || is_among (key ∷ []) k) = list_any-append (key_eq k) p.taken (key ∷ []) in
      own ∙ (ap (λ (b : Bool). b || (is_among skipped k || is_among (key ∷ []) k)) (p.keys_are k)
      ∙ (or_four (is_among left k) (is_among p.taken k) (is_among skipped k) (is_among (key ∷ []) k)
      ∙ (ap (λ (b : Bool). b || (is_among p.taken k || is_among (key ∷ []) k)) (sym lefts) ∙ ap (λ (b : Bool). is_among (left ++ skipped) k || b) (sym takes))));
  in_order = λ test none.
      let parts = all_front (λ k. test k ≡ false) p.taken key none in
      filter-append test asked (key ∷ []) ∙ (ap (λ (b : Bool). filter test asked ++ cond b (key ∷ []) []) parts.1 ∙ (append-nil (filter test asked) ∙ p.in_order test parts.0));
  apart = λ once.
      let front = front_once asked key once in
      apart_more strays p.taken key (p.apart front.0) (or_parts (is_among strays key) (is_among p.taken key) (sym (p.asked_are key) ∙ front.1)).0;
}

-- the keys behind all that were taken
pub rest_left : (asked keys strays left rest : List SeriesKey) → IsParted asked keys strays left → IsParted asked (keys ++ rest) strays (left ++ rest)
rest_left asked keys strays left rest p = record {
  taken = p.taken;
  asked_are = p.asked_are;
  keys_are = λ k. list_any-append (key_eq k) keys rest ∙ (ap (λ (b : Bool). b || is_among rest k) (p.keys_are k)
      ∙ (or_turned (is_among left k) (is_among p.taken k) (is_among rest k) ∙ ap (λ (b : Bool). b || is_among p.taken k) (sym (list_any-append (key_eq k) left rest))));
  in_order = p.in_order;
  apart = p.apart;
}

-- ---- parts of a list

-- the keys up to a place, those behind them before another, and that one
pub cut_at : (keys : List SeriesKey) (from at : ℕ) (key : SeriesKey) → from ≤ at → slice_get keys at ≡ Some key → take (at + 1) keys ≡ take from keys ++ (take (at - from) (drop from keys) ++ key ∷ [])
cut_at keys from at key le is =
    let within : at < length keys = slice_get_within keys at key is in
    let last : take (at + 1) keys ≡ take at keys ++ key ∷ [] = take_more keys at key within ∙ ap (λ (k : SeriesKey). take at keys ++ k ∷ []) (get_or_from_slice_get keys at key key is) in
    let place : at ≡ from + (at - from) = omega arith in
    let behind : drop from (take at keys) ≡ take (at - from) (drop from keys) = subst (λ (n : ℕ). drop from (take n keys) ≡ take (at - from) (drop from keys)) (sym place) (drop-take from (at - from) keys) in
    let front : take at keys ≡ take from keys ++ take (at - from) (drop from keys)
    = sym (take-append-drop from (take at keys)) ∙ (ap (λ (ks : List SeriesKey). ks ++ drop from (take at keys)) (take-take from at keys le) ∙ ap (λ (ks : List SeriesKey). take from keys ++ ks) behind) in
    last ∙ (ap (λ (ks : List SeriesKey). ks ++ key ∷ []) front ∙ append_assoc (take from keys) (take (at - from) (drop from keys)) (key ∷ []))

-- ---- what is gone

same_left : (points : SeriesKey → Bool) (keys left taken strays : List SeriesKey) → ((key : SeriesKey) → is_among keys key ≡ (is_among left key || is_among taken key)) → AllByRecursion (λ k. is_among taken k ≡ false) strays
    → filter (λ k. points k && not (is_among keys k)) strays ≡ filter (λ k. points k && not (is_among left k)) strays
same_left points keys left taken [] are all = refl
same_left points keys left taken (s ∷ strays) are all =
    let here : is_among keys s ≡ is_among left s = are s ∙ (ap (λ (b : Bool). is_among left s || b) all.0 ∙ or-false (is_among left s)) in
    rw (here, same_left points keys left taken strays are all.1) refl

-- of the keys that are asked for, those that stand nowhere among the others are the strays that are not left
pub gone_of_parted : (points : SeriesKey → Bool) (asked keys strays left : List SeriesKey) → IsParted asked keys strays left → IsDistinct key_eq asked
    → filter (λ k. points k && not (is_among keys k)) asked ≡ filter (λ k. points k && not (is_among left k)) strays
gone_of_parted points asked keys strays left p once =
    p.in_order (λ k. points k && not (is_among keys k)) (all_among (λ k. (points k && not (is_among keys k)) ≡ false) p.taken (λ k t. there (points k) (is_among keys k) (p.keys_are k ∙ or_true (is_among left k) t)))
    ∙ same_left points keys left p.taken strays p.keys_are (p.apart once)
  where
    there : (a b : Bool) → b ≡ true → (a && not b) ≡ false
    there true true e = refl
    there true false e = absurd cc
    there false b e = refl

-- ---- keys behind references

-- the key behind a reference, at its place
pub behind_at : (refs : List (Bor SeriesKey)) (at : ℕ) (r : Bor SeriesKey) → r ≡ get_or refs at r → r.now ≡ get_or (keys_behind refs) at r.now
behind_at [] at r e = refl
behind_at (x ∷ refs) zero r e = ap (λ (y : Bor SeriesKey). y.now) e
behind_at (x ∷ refs) (suc at) r e = behind_at refs at r e

pub length-behind : (refs : List (Bor SeriesKey)) → length (keys_behind refs) ≡ length refs
length-behind [] = refl
length-behind (x ∷ refs) = ap suc (length-behind refs)

-- one key more of those behind references
pub more_behind : (refs : List (Bor SeriesKey)) (at : ℕ) (r : Bor SeriesKey) → at < length refs → r ≡ get_or refs at r → take (at + 1) (keys_behind refs) ≡ take at (keys_behind refs) ++ r.now ∷ []
more_behind refs at r within is = take_more (keys_behind refs) at r.now (omega (arith, length-behind refs)) ∙ ap (λ (k : SeriesKey). take at (keys_behind refs) ++ k ∷ []) (sym (behind_at refs at r is))

-- the keys behind a part of references are that part of the keys
pub part_behind : (refs : List (Bor SeriesKey)) (count from : ℕ) → keys_behind (take count (drop from refs)) ≡ take count (drop from (keys_behind refs))
part_behind refs count from = sym (ap (take count) (drop-map (λ (r : Bor SeriesKey). r.now) from refs) ∙ take-map (λ (r : Bor SeriesKey). r.now) count (drop from refs))

-- ---- steps of the loop

pub stray_step : (asked keys strays left more : List SeriesKey) (key copied : SeriesKey) → copied ≡ key → more ≡ strays ++ copied ∷ [] → IsParted asked keys strays left → IsParted (asked ++ key ∷ []) keys more left
stray_step asked keys strays left more key copied e m p = rw (m, e) (strayed asked keys strays left key p)

pub near_step : (asked : List SeriesKey) (refs : List (Bor SeriesKey)) (strays left more : List SeriesKey) (from at : ℕ) (key : SeriesKey) → from ≤ at → slice_get (keys_behind refs) at ≡ Some key → more ≡ left ++ keys_behind (take (at - from) (drop from refs))
    → IsParted asked (take from (keys_behind refs)) strays left → IsParted (asked ++ key ∷ []) (take (at + 1) (keys_behind refs)) strays more
near_step asked refs strays left more from at key le is m p =
    let keys = keys_behind refs in
    rw (m, part_behind refs (at - from) from, cut_at keys from at key le is) (taken_away asked (take from keys) strays left (take (at - from) (drop from keys)) key p)

pub one_passed : (asked keys strays left : List SeriesKey) (at place : ℕ) (key : SeriesKey) → at < length asked → key ≡ get_or asked at key → IsParted (take at asked ++ key ∷ []) (take place keys) strays left → IsParted (take (at + 1) asked) (take place keys) strays left
one_passed asked keys strays left at place key within is p =
    subst (λ (ks : List SeriesKey). IsParted ks (take place keys) strays left) (sym (take_more asked at key within ∙ ap (λ (k : SeriesKey). take at asked ++ k ∷ []) (sym is))) p

-- the keys behind the last place are left too
pub parted_whole : (asked : List SeriesKey) (refs : List (Bor SeriesKey)) (strays list left more lefts : List SeriesKey) (from count : ℕ) → count ≡ length refs - from → IsParted asked (take from (keys_behind refs)) strays left → more ≡ left ++ keys_behind (take count (drop from refs))
    → list ≡ strays → lefts ≡ more → IsParted asked (keys_behind refs) list lefts
parted_whole asked refs strays list left more lefts from count n p m s l =
    let keys = keys_behind refs in
    let whole : count ≡ length keys - from = n ∙ ap (λ (k : ℕ). k - from) (sym (length-behind refs)) in
    let rest : more ≡ left ++ drop from keys = m ∙ ap (λ (ks : List SeriesKey). left ++ ks) (part_behind refs count from ∙ (ap (λ (k : ℕ). take k (drop from keys)) whole ∙ take_rest keys from)) in
    rw (s, l, rest) (subst (λ (ks : List SeriesKey). IsParted asked ks strays (left ++ drop from keys)) (take-append-drop from keys) (rest_left asked (take from keys) strays left (drop from keys) p))
