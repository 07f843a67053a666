-- Rows as a list in the order of keys: what a sort leaves, and that the past tells the list.
use Rattle.std.proofs.Common.{◌≡◌, ℕ, ◌+◌, ◌<◌, Bool, true, false, cond, not, ◌||◌, List, [], ◌∷◌, ◌++◌, zip, filter, take, length, get_or, Option, Some, None, is_some, refl, sym, ap, subst, ◌∙◌, arith}
use Rattle.std.specs.List.{AllByRecursion, IsDistinct, flat_map, list_any, filter_map}
use Rattle.std.specs.List.Sorted.{IsStrictlySortedBy, IsPermutation, IsSortedBy}
use Rattle.std.specs.Map.{lookup, keys_of}
use Rattle.std.specs.Cmp.{IsTotalOrder}
use Rattle.std.specs.Ordering.{is_lt}
use Rattle.std.specs.declared.cmp.Ordering.{Ordering}
use Rattle.std.specs.declared.cmp.Ordering.TheVariants.{Less, Equal, Greater}
use Rattle.std.proofs.lemmas.Cmp.{on_total, tied_itself}
use Rattle.std.specs.Prelude.{slice_get}
use Rattle.std.proofs.lemmas.List.{map-append, take_more}
use Rattle.std.proofs.lemmas.Option.{same_Some, slice_get_read, slice_get_within, get_or_from_slice_get}
use Rattle.std.proofs.lemmas.List.Sorted.{IsPermutation-sym, IsPermutation-map, Contains-permutation}
use Rattle.std.proofs.lemmas.Map.Keys.{IsDistinct-IsPermutation, apart_from_distinct, sorted_from_all_adjacent}
use Rattle.std.proofs.lemmas.Map.Views.{Contains-from_lookup, lookup-from_Contains}
use Rattle.label_sets.specs.declared.series_key.SeriesKey.{SeriesKey}
use Rattle.label_sets.specs.Keys.{key_eq, key_cmp}
use Rattle.label_sets.specs.Lists.{first_of_each}
use Rattle.label_sets.proofs.Laws.{key_decides, all-weaker, distinct_kept}
use Rattle.page_model.specs.Presence as presence
use Rattle.start_times.specs.declared.row.Row.{Row}
use Rattle.start_times.specs.declared.row.Kept.{Kept}
use Rattle.start_times.specs.Scrapes.{Scrape}
use Rattle.start_times.specs.Starts.{Tracking}
use Rattle.start_times.specs.Rows.{Tracked, Tracks, kept_row}
use Rattle.start_times.specs.Keeping.{row_in, by_key, entries_of, IsSortedListOf, AreRowsOf, key_inserted, keys_sorted, keys_seen, kept_series, rows_of_past, RowsAreThosePast, RowsTrackAgain}
use Rattle.start_times.proofs.Advance.{both_at}
use Rattle.start_times.proofs.Found.{key_equal, key_itself, key_turned, key_laws}
use Rattle.start_times.proofs.KeyOrder.{key_order, keys_tied}
use Rattle.start_times.proofs.FewRows.{others, still_there, seen_keys, kept_seen}

-- ---- rows and entries

pub row_in_entries : (key : SeriesKey) (xs : List Kept) → row_in key xs ≡ lookup (key_eq key) (entries_of xs)
row_in_entries key [] = refl
row_in_entries key (x ∷ xs) = go (key_eq key x.key) refl (row_in_entries key xs)
  where
    go : (b : Bool) → key_eq key x.key ≡ b → row_in key xs ≡ lookup (key_eq key) (entries_of xs) → row_in key (x ∷ xs) ≡ lookup (key_eq key) (entries_of (x ∷ xs))
    go true p later = rw p refl
    go false p later = rw p later

-- both are of one series
abbrev same_key : Kept → Kept → Bool
same_key a b = key_eq a.key b.key

kept_apart : (key : SeriesKey) (xs : List Kept) → AllByRecursion (λ y. key_eq key y ≡ false) (keys_of (entries_of xs)) → AllByRecursion (λ (k : Kept). key_eq key k.key ≡ false) xs
kept_apart key [] all = tt
kept_apart key (k ∷ xs) all = (all.0, kept_apart key xs all.1)

kept_distinct : (xs : List Kept) → IsDistinct key_eq (keys_of (entries_of xs)) → IsDistinct same_key xs
unfolding IsDistinct
kept_distinct [] once = tt
kept_distinct (k ∷ xs) once = (kept_apart k.key xs once.0, kept_distinct xs once.1)

-- entries that change places are found as before
lookup_moved : (key : SeriesKey) (es fs : List (SeriesKey × Row)) → IsDistinct key_eq (keys_of es) → IsDistinct key_eq (keys_of fs) → IsPermutation es fs → lookup (key_eq key) es ≡ lookup (key_eq key) fs
lookup_moved key es fs once again moved = by (lookup (key_eq key) es) refl (lookup (key_eq key) fs) refl
  where
    by : (o : Option Row) → lookup (key_eq key) es ≡ o → (p : Option Row) → lookup (key_eq key) fs ≡ p → lookup (key_eq key) es ≡ lookup (key_eq key) fs
    by (Some row) e p f = e ∙ sym (lookup-from_Contains key_laws key row fs again (Contains-permutation es fs (key, row) moved (Contains-from_lookup key_equal key row es e)))
    by None e (Some row) f = lookup-from_Contains key_laws key row es once (Contains-permutation fs es (key, row) (IsPermutation-sym es fs moved) (Contains-from_lookup key_equal key row fs f)) ∙ sym f
    by None e None f = e ∙ sym f

less_is : (r : Ordering) → is_lt r ≡ true → r ≡ Less
less_is Less e = refl
less_is Equal e = absurd (let f : false ≡ true = e in cc)
less_is Greater e = absurd (let f : false ≡ true = e in cc)

-- ---- what the order of keys gives

by_key_total : IsTotalOrder by_key
by_key_total = on_total (λ (k : Kept). k.key) key_order

-- of two keys that differ, the one that isn't less is greater
other_way : (a b : SeriesKey) → key_eq a b ≡ false → is_lt (key_cmp a b) ≡ false → key_cmp b a ≡ Less
other_way a b apart not_less = go (key_cmp a b) refl
  where
    go : (r : Ordering) → key_cmp a b ≡ r → key_cmp b a ≡ Less
    go Less e = absurd (let f : true ≡ false = sym (ap is_lt e) ∙ not_less in cc)
    go Equal e = absurd (let f : key_eq a b ≡ true = (key_decides a b).1 (keys_tied a b e) in let g : true ≡ false = sym f ∙ apart in cc)
    go Greater e = key_order.antisymm b a ∙ rw e refl

-- a key that is less is another
less_apart : (a b : SeriesKey) → key_cmp a b ≡ Less → key_eq a b ≡ false
less_apart a b less = go (key_eq a b) refl
  where
    go : (t : Bool) → key_eq a b ≡ t → t ≡ false
    go false e = refl
    go true e = absurd (let f : key_cmp a a ≡ Equal = tied_itself key_order a in let g : key_cmp a b ≡ Equal = subst (λ (k : SeriesKey). key_cmp a k ≡ Equal) (key_equal a b e) f in let h : Less ≡ Equal = sym less ∙ g in cc)

-- ---- what a sort leaves

ascending : (ys : List Kept) → IsDistinct same_key ys → IsSortedBy (λ x y. is_lt (by_key x y)) ys → IsStrictlySortedBy by_key ys
unfolding IsStrictlySortedBy
ascending [] d s = tt
ascending (y ∷ ys) d s = sorted_from_all_adjacent by_key_total (y ∷ ys) y (λ k h. next k h)
  where
    next : (k : ℕ) → k + 1 < length (y ∷ ys) → by_key (get_or (y ∷ ys) k y) (get_or (y ∷ ys) (k + 1) y) ≡ Less
    next k h =
        let a : Kept = get_or (y ∷ ys) k y in
        let b : Kept = get_or (y ∷ ys) (k + 1) y in
        other_way b.key a.key (key_turned b.key a.key ∙ apart_from_distinct same_key (y ∷ ys) k (k + 1) y d (omega arith) h) (s k y (omega arith) h)

pub sorted_list : (entries : List (SeriesKey × Row)) (xs ys : List Kept) → entries_of xs ≡ entries → IsPermutation xs ys → IsSortedBy (λ x y. is_lt (by_key x y)) ys → IsSortedListOf entries ys
sorted_list entries xs ys is moved sorted = λ once.
    let start : IsDistinct key_eq (keys_of (entries_of xs)) = subst (λ (es : List (SeriesKey × Row)). IsDistinct key_eq (keys_of es)) (sym is) once in
    let shifted : IsPermutation (entries_of xs) (entries_of ys) = IsPermutation-map (λ (k : Kept). (k.key, k.row)) xs ys moved in
    let keys : IsPermutation (keys_of (entries_of xs)) (keys_of (entries_of ys)) = IsPermutation-map (λ (e : SeriesKey × Row). e.0) (entries_of xs) (entries_of ys) shifted in
    let again : IsDistinct key_eq (keys_of (entries_of ys)) = IsDistinct-IsPermutation key_eq key_turned (keys_of (entries_of xs)) (keys_of (entries_of ys)) keys start in
    (ascending ys (kept_distinct ys again) sorted, λ key. row_in_entries key ys ∙ (sym (lookup_moved key (entries_of xs) (entries_of ys) start again shifted) ∙ ap (lookup (key_eq key)) is))

-- ---- rows that track again

keys_apart : (key : SeriesKey) (ks : List Kept) → AllByRecursion (λ (k : Kept). key_cmp key k.key ≡ Less) ks → AllByRecursion (λ y. key_eq key y ≡ false) (keys_of (entries_of ks))
keys_apart key [] all = tt
keys_apart key (k ∷ ks) all = (less_apart key k.key all.0, keys_apart key ks all.1)

pub distinct_rows : (rows : List Kept) → IsStrictlySortedBy by_key rows → IsDistinct key_eq (keys_of (entries_of rows))
unfolding IsStrictlySortedBy IsDistinct
distinct_rows [] sorted = tt
distinct_rows (k ∷ rows) sorted = (keys_apart k.key rows sorted.0, distinct_rows rows sorted.1)

pub rows_track_again : RowsTrackAgain
rows_track_again t k again past rows tracks are is =
    let stands : Tracks t (record { keep = k.keep; honor = k.honor; rows = entries_of rows }) past = record {
      keep = tracks.keep;
      honor = tracks.honor;
      rows = λ key. sym (row_in_entries key rows) ∙ (are.same key ∙ tracks.rows key);
      once = distinct_rows rows are.sorted;
    } in
    subst (λ (x : Tracked). Tracks t x past) (sym is) stands

-- ---- two lists in order with the same rows

none_below : (key : SeriesKey) (ks : List Kept) → AllByRecursion (λ (k : Kept). key_cmp key k.key ≡ Less) ks → row_in key ks ≡ None
none_below key [] all = refl
none_below key (k ∷ ks) all = rw (less_apart key k.key all.0) (none_below key ks all.1)

first_row : (x : Kept) (xs : List Kept) → row_in x.key (x ∷ xs) ≡ Some x.row
first_row x xs = rw (key_itself x.key) refl

-- a key below a list in order is below all of it
all_below : (key : SeriesKey) (y : Kept) (ys : List Kept) → key_cmp key y.key ≡ Less → AllByRecursion (λ (k : Kept). key_cmp y.key k.key ≡ Less) ys → AllByRecursion (λ (k : Kept). key_cmp key k.key ≡ Less) (y ∷ ys)
all_below key y ys less all = (less, all-weaker (λ (k : Kept). key_cmp y.key k.key ≡ Less) (λ (k : Kept). key_cmp key k.key ≡ Less) (λ k l. key_order.trans key y.key k.key less l) ys all)

not_first : (P : Type 0) (x y : Kept) (xs ys : List Kept) → AllByRecursion (λ (k : Kept). key_cmp y.key k.key ≡ Less) ys → key_cmp x.key y.key ≡ Less → row_in x.key (x ∷ xs) ≡ row_in x.key (y ∷ ys) → P
not_first P x y xs ys all less same = absurd (let f : Some x.row ≡ None = sym (first_row x xs) ∙ (same ∙ none_below x.key (y ∷ ys) (all_below x.key y ys less all)) in cc)

rest_same : (x : Kept) (xs ys : List Kept) → AllByRecursion (λ (k : Kept). key_cmp x.key k.key ≡ Less) xs → AllByRecursion (λ (k : Kept). key_cmp x.key k.key ≡ Less) ys
    → (key : SeriesKey) → row_in key (x ∷ xs) ≡ row_in key (x ∷ ys) → row_in key xs ≡ row_in key ys
rest_same x xs ys below_x below_y key same = go (key_eq key x.key) refl
  where
    go : (b : Bool) → key_eq key x.key ≡ b → row_in key xs ≡ row_in key ys
    go true p =
        let is : x.key ≡ key = sym (key_equal key x.key p) in
        let one : row_in key xs ≡ None = none_below key xs (subst (λ (z : SeriesKey). AllByRecursion (λ (k : Kept). key_cmp z k.key ≡ Less) xs) is below_x) in
        let two : row_in key ys ≡ None = none_below key ys (subst (λ (z : SeriesKey). AllByRecursion (λ (k : Kept). key_cmp z k.key ≡ Less) ys) is below_y) in
        one ∙ sym two
    go false p = rw p at same

same_first : (x y : Kept) (xs ys : List Kept) → x.key ≡ y.key → row_in x.key (x ∷ xs) ≡ row_in x.key (y ∷ ys) → x ≡ y
same_first x y xs ys keys same =
    let two : row_in x.key (y ∷ ys) ≡ Some y.row = subst (λ (key : SeriesKey). row_in key (y ∷ ys) ≡ Some y.row) (sym keys) (first_row y ys) in
    let rows : x.row ≡ y.row = same_Some x.row y.row (sym (first_row x xs) ∙ (same ∙ two)) in
    λ i. record { key = keys i; row = rows i }

same_rows : (xs ys : List Kept) → IsStrictlySortedBy by_key xs → IsStrictlySortedBy by_key ys → ((key : SeriesKey) → row_in key xs ≡ row_in key ys) → xs ≡ ys
unfolding IsStrictlySortedBy
same_rows [] [] a b same = refl
same_rows [] (y ∷ ys) a b same = absurd (let f : None ≡ Some y.row = same y.key ∙ first_row y ys in cc)
same_rows (x ∷ xs) [] a b same = absurd (let f : Some x.row ≡ None = sym (first_row x xs) ∙ same x.key in cc)
same_rows (x ∷ xs) (y ∷ ys) a b same = go (key_cmp x.key y.key) refl (same_rows xs ys a.1 b.1)
  where
    go : (r : Ordering) → key_cmp x.key y.key ≡ r → (((key : SeriesKey) → row_in key xs ≡ row_in key ys) → xs ≡ ys) → x ∷ xs ≡ y ∷ ys
    go Less e later = not_first (x ∷ xs ≡ y ∷ ys) x y xs ys b.0 e (same x.key)
    go Greater e later = let less : key_cmp y.key x.key ≡ Less = key_order.antisymm y.key x.key ∙ rw e refl in not_first (x ∷ xs ≡ y ∷ ys) y x ys xs a.0 less (sym (same y.key))
    go Equal e later =
        let keys : x.key ≡ y.key = keys_tied x.key y.key e in
        let first : x ≡ y = same_first x y xs ys keys (same x.key) in
        let both : (key : SeriesKey) → row_in key (x ∷ xs) ≡ row_in key (x ∷ ys) = subst (λ (z : Kept). (key : SeriesKey) → row_in key (x ∷ xs) ≡ row_in key (z ∷ ys)) (sym first) same in
        let below : AllByRecursion (λ (k : Kept). key_cmp x.key k.key ≡ Less) ys = subst (λ (z : SeriesKey). AllByRecursion (λ (k : Kept). key_cmp z k.key ≡ Less) ys) (sym keys) b.0 in
        let rest : xs ≡ ys = later (λ key. rest_same x xs ys a.0 below key (both key)) in
        ap (λ (z : Kept). z ∷ xs) first ∙ ap (λ (zs : List Kept). y ∷ zs) rest

-- ---- keys in their order

all_inserted : (P : SeriesKey → Type 0) (key : SeriesKey) (ks : List SeriesKey) → P key → AllByRecursion P ks → AllByRecursion P (key_inserted key ks)
all_inserted P key [] p all = (p, tt)
all_inserted P key (k ∷ ks) p all = go (is_lt (key_cmp key k)) refl (all_inserted P key ks p all.1)
  where
    go : (b : Bool) → is_lt (key_cmp key k) ≡ b → AllByRecursion P (key_inserted key ks) → AllByRecursion P (key_inserted key (k ∷ ks))
    go true e later = rw e (p, all)
    go false e later = rw e (all.0, later)

all_sorted : (P : SeriesKey → Type 0) (ks : List SeriesKey) → AllByRecursion P ks → AllByRecursion P (keys_sorted ks)
all_sorted P [] all = tt
all_sorted P (k ∷ ks) all = all_inserted P k (keys_sorted ks) all.0 (all_sorted P ks all.1)

inserted_ascends : (key : SeriesKey) (ks : List SeriesKey) → AllByRecursion (λ k. key_eq key k ≡ false) ks → IsStrictlySortedBy key_cmp ks → IsStrictlySortedBy key_cmp (key_inserted key ks)
unfolding IsStrictlySortedBy
inserted_ascends key [] apart h = (tt, tt)
inserted_ascends key (k ∷ ks) apart h = go (is_lt (key_cmp key k)) refl (inserted_ascends key ks apart.1 h.1)
  where
    go : (b : Bool) → is_lt (key_cmp key k) ≡ b → IsStrictlySortedBy key_cmp (key_inserted key ks) → IsStrictlySortedBy key_cmp (cond b (key ∷ k ∷ ks) (k ∷ key_inserted key ks))
    go true e later = let less : key_cmp key k ≡ Less = less_is (key_cmp key k) e in ((less, all-weaker (λ z. key_cmp k z ≡ Less) (λ z. key_cmp key z ≡ Less) (λ z l. key_order.trans key k z less l) ks h.0), h)
    go false e later = (all_inserted (λ z. key_cmp k z ≡ Less) key ks (other_way key k apart.0 e) h.0, later)

sorted_ascends : (ks : List SeriesKey) → IsDistinct key_eq ks → IsStrictlySortedBy key_cmp (keys_sorted ks)
unfolding IsStrictlySortedBy IsDistinct
sorted_ascends [] once = tt
sorted_ascends (k ∷ ks) once = inserted_ascends k (keys_sorted ks) (all_sorted (λ z. key_eq k z ≡ false) ks once.0) (sorted_ascends ks once.1)

or_swap : (a b c : Bool) → (a || (b || c)) ≡ (b || (a || c))
or_swap true true c = refl
or_swap true false c = refl
or_swap false b c = refl

any_inserted : (q key : SeriesKey) (ks : List SeriesKey) → list_any (key_eq q) (key_inserted key ks) ≡ (key_eq q key || list_any (key_eq q) ks)
any_inserted q key [] = refl
any_inserted q key (k ∷ ks) = go (is_lt (key_cmp key k)) refl (any_inserted q key ks)
  where
    go : (b : Bool) → is_lt (key_cmp key k) ≡ b → list_any (key_eq q) (key_inserted key ks) ≡ (key_eq q key || list_any (key_eq q) ks)
        → list_any (key_eq q) (key_inserted key (k ∷ ks)) ≡ (key_eq q key || (key_eq q k || list_any (key_eq q) ks))
    go true e later = rw e refl
    go false e later = rw e (ap (λ (b : Bool). key_eq q k || b) later ∙ or_swap (key_eq q k) (key_eq q key) (list_any (key_eq q) ks))

any_sorted : (q : SeriesKey) (ks : List SeriesKey) → list_any (key_eq q) (keys_sorted ks) ≡ list_any (key_eq q) ks
any_sorted q [] = refl
any_sorted q (k ∷ ks) = any_inserted q k (keys_sorted ks) ∙ ap (λ (b : Bool). key_eq q k || b) (any_sorted q ks)

-- ---- each key once

passes_apart : (x : SeriesKey) (ys : List SeriesKey) → AllByRecursion (λ y. key_eq x y ≡ false) (filter (λ y. not (key_eq x y)) ys)
passes_apart x [] = tt
passes_apart x (y ∷ ys) = go (key_eq x y) refl (passes_apart x ys)
  where
    go : (b : Bool) → key_eq x y ≡ b → AllByRecursion (λ z. key_eq x z ≡ false) (filter (λ z. not (key_eq x z)) ys) → AllByRecursion (λ z. key_eq x z ≡ false) (filter (λ z. not (key_eq x z)) (y ∷ ys))
    go true e later = rw e later
    go false e later = rw e (e, later)

firsts_distinct : (ks : List SeriesKey) → IsDistinct key_eq (first_of_each key_eq ks)
unfolding IsDistinct
firsts_distinct [] = tt
firsts_distinct (k ∷ ks) = (passes_apart k (first_of_each key_eq ks), distinct_kept key_eq (λ y. not (key_eq k y)) (first_of_each key_eq ks) (firsts_distinct ks))

firsts_have : (q : SeriesKey) (ks : List SeriesKey) → list_any (key_eq q) ks ≡ true → list_any (key_eq q) (first_of_each key_eq ks) ≡ true
unfolding others
firsts_have q [] h = h
firsts_have q (k ∷ ks) h = go (key_eq q k) refl (firsts_have q ks)
  where
    go : (b : Bool) → key_eq q k ≡ b → (list_any (key_eq q) ks ≡ true → list_any (key_eq q) (first_of_each key_eq ks) ≡ true) → list_any (key_eq q) (first_of_each key_eq (k ∷ ks)) ≡ true
    go true e later = rw e refl
    go false e later = rw e (still_there k q (first_of_each key_eq ks) (key_turned k q ∙ e) (later (rw e at h)))

-- ---- the rows of a past

all_kept : (P : SeriesKey → Type 0) (t : Tracking) (past : List Scrape) (ks : List SeriesKey) → AllByRecursion P ks → AllByRecursion (λ (k : Kept). P k.key) (filter_map (kept_series t past) ks)
all_kept P t past [] all = tt
all_kept P t past (k ∷ ks) all = go (kept_row t k past) refl (all_kept P t past ks all.1)
  where
    go : (o : Option Row) → kept_row t k past ≡ o → AllByRecursion (λ (x : Kept). P x.key) (filter_map (kept_series t past) ks) → AllByRecursion (λ (x : Kept). P x.key) (filter_map (kept_series t past) (k ∷ ks))
    go None e later = rw e later
    go (Some row) e later = rw e (all.0, later)

kept_ascends : (t : Tracking) (past : List Scrape) (ks : List SeriesKey) → IsStrictlySortedBy key_cmp ks → IsStrictlySortedBy by_key (filter_map (kept_series t past) ks)
unfolding IsStrictlySortedBy
kept_ascends t past [] h = tt
kept_ascends t past (k ∷ ks) h = go (kept_row t k past) refl (kept_ascends t past ks h.1)
  where
    go : (o : Option Row) → kept_row t k past ≡ o → IsStrictlySortedBy by_key (filter_map (kept_series t past) ks) → IsStrictlySortedBy by_key (filter_map (kept_series t past) (k ∷ ks))
    go None e later = rw e later
    go (Some row) e later = rw e (all_kept (λ z. key_cmp k z ≡ Less) t past ks h.0, later)

row_kept : (t : Tracking) (past : List Scrape) (q : SeriesKey) (ks : List SeriesKey) → row_in q (filter_map (kept_series t past) ks) ≡ cond (list_any (key_eq q) ks) (kept_row t q past) None
row_kept t past q [] = refl
row_kept t past q (k ∷ ks) = go (key_eq q k) refl (kept_row t k past) refl (row_kept t past q ks)
  where
    absent : (b : Bool) → kept_row t q past ≡ None → cond b (kept_row t q past) None ≡ None
    absent true none = none
    absent false none = refl

    go : (b : Bool) → key_eq q k ≡ b → (o : Option Row) → kept_row t k past ≡ o → row_in q (filter_map (kept_series t past) ks) ≡ cond (list_any (key_eq q) ks) (kept_row t q past) None
        → row_in q (filter_map (kept_series t past) (k ∷ ks)) ≡ cond (list_any (key_eq q) (k ∷ ks)) (kept_row t q past) None
    go true p (Some row) e later = let same : kept_row t q past ≡ Some row = ap (λ (z : SeriesKey). kept_row t z past) (key_equal q k p) ∙ e in rw (e, p) (sym same)
    go true p None e later = let same : kept_row t q past ≡ None = ap (λ (z : SeriesKey). kept_row t z past) (key_equal q k p) ∙ e in rw (e, p) (later ∙ (absent (list_any (key_eq q) ks) same ∙ sym same))
    go false p (Some row) e later = rw (e, p) later
    go false p None e later = rw (e, p) later

seen_is : (past : List Scrape) → seen_keys past ≡ flat_map (λ (s : Scrape). presence.keys_of s.page) past
unfolding seen_keys
seen_is [] = refl
seen_is (s ∷ past) = ap (λ (ks : List SeriesKey). presence.keys_of s.page ++ ks) (seen_is past)

-- a series of which a row is kept is one of those that were seen
kept_there : (t : Tracking) (past : List Scrape) (key : SeriesKey) → is_some (kept_row t key past) ≡ true → list_any (key_eq key) (keys_seen t past) ≡ true
kept_there t past key some =
    let all = flat_map (λ (s : Scrape). presence.keys_of s.page) (take (t.keep + 1) past) in
    let there : list_any (key_eq key) all ≡ true = subst (λ (ks : List SeriesKey). list_any (key_eq key) ks ≡ true) (seen_is (take (t.keep + 1) past)) (kept_seen t key past some) in
    any_sorted key (first_of_each key_eq all) ∙ firsts_have key all there

pub row_of_past : (t : Tracking) (past : List Scrape) (key : SeriesKey) → row_in key (rows_of_past t past) ≡ kept_row t key past
unfolding rows_of_past
row_of_past t past key = row_kept t past key (keys_seen t past) ∙ by (list_any (key_eq key) (keys_seen t past)) refl (kept_row t key past) refl
  where
    by : (b : Bool) → list_any (key_eq key) (keys_seen t past) ≡ b → (o : Option Row) → kept_row t key past ≡ o → cond b o None ≡ o
    by true p o e = refl
    by false p None e = refl
    by false p (Some row) e = absurd (let some : is_some (kept_row t key past) ≡ true = ap is_some e in let f : false ≡ true = sym p ∙ kept_there t past key some in cc)

pub past_ascends : (t : Tracking) (past : List Scrape) → IsStrictlySortedBy by_key (rows_of_past t past)
unfolding rows_of_past
past_ascends t past = let all = flat_map (λ (s : Scrape). presence.keys_of s.page) (take (t.keep + 1) past) in kept_ascends t past (keys_seen t past) (sorted_ascends (first_of_each key_eq all) (firsts_distinct all))

pub rows_are_those_of_past : RowsAreThosePast
rows_are_those_of_past t k past rows tracks are = same_rows rows (rows_of_past t past) are.sorted (past_ascends t past) (λ key. are.same key ∙ (tracks.rows key ∙ sym (row_of_past t past key)))

-- ---- the list of a tracker

-- the entries of a list with one more
entries_more : (before after : List Kept) (kept : Kept) (entry : SeriesKey × Row) (entries : List (SeriesKey × Row)) → entries_of before ≡ entries → (kept.key, kept.row) ≡ entry → after ≡ before ++ kept ∷ [] → entries_of after ≡ entries ++ entry ∷ []
entries_more before after kept entry entries listed is more = ap entries_of more ∙ (map-append (λ (x : Kept). (x.key, x.row)) before (kept ∷ []) ∙ (ap (λ (es : List (SeriesKey × Row)). es ++ (kept.key, kept.row) ∷ []) listed ∙ ap (λ (x : SeriesKey × Row). entries ++ x ∷ []) is))

-- a series with its row behind those that were listed
pub listed_more : (keys ks : List SeriesKey) (rows rs : List Row) (at : ℕ) (key : SeriesKey) (row : Row) (kept : Kept) (before after : List Kept) → ks ≡ keys → rs ≡ rows → at < length keys → at < length rows → key ≡ get_or ks at key → row ≡ get_or rs at row
    → kept ≡ record { key = key; row = row } → entries_of before ≡ take at (zip keys rows) → after ≡ before ++ kept ∷ [] → entries_of after ≡ take (at + 1) (zip keys rows)
listed_more keys ks rows rs at key row kept before after k r in_keys in_rows key_is row_is is listed more =
    let key_at : slice_get keys at ≡ Some key = slice_get_read keys (length keys) at key refl in_keys (key_is ∙ ap (λ (xs : List SeriesKey). get_or xs at key) k) in
    let row_at : slice_get rows at ≡ Some row = slice_get_read rows (length rows) at row refl in_rows (row_is ∙ ap (λ (xs : List Row). get_or xs at row) r) in
    let entry_at : slice_get (zip keys rows) at ≡ Some (key, row) = both_at keys rows at key row key_at row_at in
    let entry : get_or (zip keys rows) at (key, row) ≡ (key, row) = get_or_from_slice_get (zip keys rows) at (key, row) (key, row) entry_at in
    let front : take (at + 1) (zip keys rows) ≡ take at (zip keys rows) ++ (key, row) ∷ [] = take_more (zip keys rows) at (key, row) (slice_get_within (zip keys rows) at (key, row) entry_at) ∙ ap (λ (x : SeriesKey × Row). take at (zip keys rows) ++ x ∷ []) entry in
    entries_more before after kept (key, row) (take at (zip keys rows)) listed (ap (λ (x : Kept). (x.key, x.row)) is) more ∙ sym front

-- a list of the entries of a tracker is one of its rows
pub rows_listed : (entries : List (SeriesKey × Row)) (k : Tracked) (items list : List Kept) → entries ≡ k.rows → IsSortedListOf entries items → list ≡ items → IsDistinct key_eq (keys_of k.rows) → AreRowsOf k list
rows_listed entries k items list is sorted same once =
    let both = subst (λ (es : List (SeriesKey × Row)). IsSortedListOf es items) is sorted once in
    subst (λ (rows : List Kept). AreRowsOf k rows) (sym same) (record { sorted = both.0; same = both.1 })
