-- Where a name belongs among labels whose names ascend, and what insertion there keeps.
use Rattle.std.proofs.Common.{◌≡◌, ℕ, zero, suc, ◌+◌, ◌<◌, ◌≤◌, Bool, true, List, [], ◌∷◌, ◌++◌, length, take, drop, get_or, Option, Some, None, refl, sym, ap, subst, ◌∙◌, arith, drop-cons, length-drop, add-one, append_assoc, ◌-◌}
use Rattle.std.proofs.lemmas.Bool.{or_right}
use Rattle.std.proofs.lemmas.Grind.{common_steps}
use Rattle.std.proofs.Math.Seq.{take-append_seam, drop-append_seam, take-suc}
use Rattle.std.proofs.lemmas.Map.Keys.{IsDistinct-IsPermutation}
use borrow.Rule.Slice.PartMut.{mid_of, put_mid}
use Rattle.std.proofs.lemmas.List.Edits.{length-insert}
use Rattle.std.specs.List.{filter, AllByRecursion, list_any, insert}
use Rattle.std.specs.List.Sorted.{IsStrictlySortedBy, IsPermutation, IsSorted}
use Rattle.std.specs.Cmp.Lexicographic.{slice_cmp}
use Rattle.std.specs.Str.{bytes_eq}
use Rattle.std.specs.Ordering.{nat_cmp, is_eq}
use Rattle.std.specs.declared.cmp.Ordering.{Ordering}
use Rattle.std.specs.declared.cmp.Ordering.TheVariants.{Less, Equal, Greater}
use Rattle.std.proofs.lemmas.Cmp.{nat_list_cmp_total}
use Rattle.std.proofs.lemmas.Map.Text.{is_eq-slice_cmp}
use Rattle.std.proofs.lemmas.List.{take-append-drop, length-take-le, drop-take, take-take, drop-drop}
use Rattle.std.proofs.lemmas.List.Elements.{Contains-get_or}
use Rattle.std.proofs.lemmas.List.Sorted.{IsPermutation-refl, IsPermutation-insert, IsPermutation-push_more, list_any-IsPermutation}
use Rattle.label_sets.specs.declared.label.Label.{Label}
use Rattle.label_sets.specs.Sets.{by_name, IsLabelSet}
use Rattle.label_sets.specs.Labels.{has_name, has_value, label_set, repeated_at}
use Rattle.label_sets.specs.Keys.{label_cmp}
use Rattle.label_sets.specs.Building.{same_name, BelongsAt, Sorts}
use Rattle.label_sets.proofs.Order.{by_name_total, same_name_turned, ascending_from_sort, every, inserted_between, distinct_before, sorted_is, sorted_moves, set_is, IsLabelSet-valued}
use Rattle.label_sets.proofs.Repeats.{repeated_at-distinct, repeated_at-append, distinct_from_repeated_at}

-- a compare with the element that was read at a place is one with the element
pub at_read : (m n : Label) (name : List ℕ) (r : Ordering) → m ≡ n → r ≡ slice_cmp nat_cmp n.name name → slice_cmp nat_cmp m.name name ≡ r
at_read m n name r e h = subst (λ (x : Label). slice_cmp nat_cmp x.name name ≡ r) (sym e) (sym h)

-- the name is less than each of the labels' names
abbrev pub IsBelow : List ℕ → List Label → Type 0
IsBelow name ls = AllByRecursion (λ (m : Label). slice_cmp nat_cmp name m.name ≡ Less) ls

before_upto : (l : Label) (ms : List Label) (k : ℕ) (d : Label) → IsStrictlySortedBy by_name ms → k < length ms → by_name (get_or ms k d) l ≡ Less → AllByRecursion (λ m. by_name m l ≡ Less) (take (suc k) ms)
unfolding IsStrictlySortedBy
before_upto l [] k d h lt e = absurd (omega arith)
before_upto l (m ∷ ms) zero d h lt e = (e, tt)
before_upto l (m ∷ ms) (suc k) d h lt e =
    let lt' : k < length ms = omega arith in
    (by_name_total.trans m (get_or ms k d) l (every (λ z. by_name m z ≡ Less) ms (get_or ms k d) h.0 (Contains-get_or ms k d lt')) e, before_upto l ms k d h.1 lt' e)

pub belongs_first : (ls : List Label) (name : List ℕ) (at : ℕ) → IsStrictlySortedBy by_name ls → at ≤ 0 → IsBelow name (drop at ls) → BelongsAt ls name (Some 0)
belongs_first ls name zero h z below = (omega arith, λ l e. inserted_between l ls 0 h tt (subst (λ (n : List ℕ). IsBelow n ls) (sym e) below))
belongs_first ls name (suc at) h z below = absurd (omega arith)

pub belongs_behind : (ls : List Label) (name : List ℕ) (at k : ℕ) (m : Label) → at ≡ suc k → IsStrictlySortedBy by_name ls → at ≤ length ls → m ≡ get_or ls k m
    → slice_cmp nat_cmp m.name name ≡ Less → IsBelow name (drop at ls) → BelongsAt ls name (Some at)
belongs_behind ls name at k m is h le read less below = subst (λ (n : ℕ). BelongsAt ls name (Some n)) (sym is) (
  (omega arith),
  λ l e. inserted_between l ls (suc k) h
      (before_upto l ls k m h (omega arith) (subst (λ (n : List ℕ). slice_cmp nat_cmp (get_or ls k m).name n ≡ Less) (sym e) (subst (λ (x : Label). slice_cmp nat_cmp x.name name ≡ Less) read less)))
      (subst (λ (n : List ℕ). IsBelow n (drop (suc k) ls)) (sym e) (subst (λ (n : ℕ). IsBelow name (drop n ls)) is below)),
)

pub any_at : (p : Label → Bool) (ls : List Label) (k : ℕ) (d : Label) → k < length ls → p (get_or ls k d) ≡ true → list_any p ls ≡ true
any_at p [] k d lt e = absurd (omega arith)
any_at p (m ∷ ms) zero d lt e = rw e refl
any_at p (m ∷ ms) (suc k) d lt e = or_right (p m) (list_any p ms) (any_at p ms k d (omega arith) e)

pub taken_at : (ls : List Label) (name : List ℕ) (k : ℕ) (m : Label) → k < length ls → m ≡ get_or ls k m → slice_cmp nat_cmp m.name name ≡ Equal → BelongsAt ls name None
taken_at ls name k m lt read e = any_at (λ (l : Label). bytes_eq l.name name) ls k m lt
    (subst (λ (x : Label). bytes_eq x.name name ≡ true) read (sym (is_eq-slice_cmp m.name name) ∙ ap is_eq e))

pub below_more : (ls : List Label) (name : List ℕ) (at k : ℕ) (m : Label) → at ≡ suc k → at ≤ length ls → m ≡ get_or ls k m → slice_cmp nat_cmp m.name name ≡ Greater → IsBelow name (drop at ls) → IsBelow name (drop k ls)
below_more ls name at k m is le read greater below =
    let lt : k < length ls = omega arith in
    let first : drop k ls ≡ get_or ls k m ∷ drop (suc k) ls = drop-cons ls k m lt in
    let less : slice_cmp nat_cmp name m.name ≡ Less = nat_list_cmp_total.antisymm name m.name ∙ rw greater refl in
    subst (IsBelow name) (sym first) (subst (λ (x : Label). slice_cmp nat_cmp name x.name ≡ Less) read less, subst (λ (n : ℕ). IsBelow name (drop n ls)) is below)

-- ---- a list that is sorted as far as `at`

pub record SortedFront (old now : List Label) (at : ℕ) : Type 0 where
  pub moved : IsPermutation (take at old) (take at now)
  pub ascending : IsStrictlySortedBy by_name (take at now)
  pub rest : drop at now ≡ drop at old

pub front_start : (old : List Label) → SortedFront old old 0
unfolding IsStrictlySortedBy
front_start old = record { moved = IsPermutation-refl []; ascending = tt; rest = refl }

pub all_of : (ls : List Label) (n : ℕ) → length ls ≤ n → take n ls ≡ ls
all_of ls n h = grind (arith, common_steps)

pub front_whole : (old now : List Label) (at : ℕ) → SortedFront old now at → length old ≤ at → length now ≡ length old → Sorts old None now
front_whole old now at f le same =
    let moved : IsPermutation old now = subst (λ (xs : List Label). IsPermutation xs now) (all_of old at le) (subst (λ (ys : List Label). IsPermutation (take at old) ys) (all_of now at (omega arith)) f.moved) in
    let ascending : IsStrictlySortedBy by_name now = subst (IsStrictlySortedBy by_name) (all_of now at (omega arith)) f.ascending in
    (repeated_at-distinct old (distinct_before old now moved ascending), sorted_is old now moved ascending, ascending)

heads : (x y : Label) (xs ys : List Label) → x ∷ xs ≡ y ∷ ys → (x ≡ y) × (xs ≡ ys)
heads x y xs ys e = (cc, cc)

same_from : (old now : List Label) (at : ℕ) (m : Label) → drop at now ≡ drop at old → at < length now → at < length old → m ≡ get_or now at m → (get_or old at m ≡ m) × (drop (suc at) now ≡ drop (suc at) old)
same_from old now at m e lt lt' read =
    let both = heads (get_or now at m) (get_or old at m) (drop (suc at) now) (drop (suc at) old) (sym (drop-cons now at m lt) ∙ (e ∙ drop-cons old at m lt')) in
    (sym both.0 ∙ sym read, both.1)

pub front_repeat : (old now : List Label) (at : ℕ) (m : Label) → SortedFront old now at → at < length now → length now ≡ length old → m ≡ get_or now at m → has_name (take at now) m.name ≡ true → Sorts old (Some at) now
front_repeat old now at m f lt same read taken =
    let lt' : at < length old = omega arith in
    let m_is = (same_from old now at m f.rest lt lt' read).0 in
    let whole : take at old ++ m ∷ drop (suc at) old ≡ old =
    subst (λ (x : Label). take at old ++ x ∷ drop (suc at) old ≡ old) m_is (subst (λ (xs : List Label). take at old ++ xs ≡ old) (drop-cons old at m lt') (take-append-drop at old)) in
    let taken' : has_name (take at old) m.name ≡ true = list_any-IsPermutation (λ (l : Label). bytes_eq l.name m.name) (take at old) (take at now) f.moved ∙ taken in
    let long : length (take at old) ≡ at = length-take-le at old (omega arith) in
    let found = repeated_at-append (take at old) m (drop (suc at) old) (distinct_before (take at old) (take at now) f.moved f.ascending) taken' in
    ap (repeated_at [] 0) (sym whole) ∙ (found ∙ ap Some long)

pub front_more : (old now new : List Label) (at to : ℕ) (m : Label) → SortedFront old now at → at < length now → length now ≡ length old → m ≡ get_or now at m → BelongsAt (take at now) m.name (Some to)
    → new ≡ insert (take at now) to m ++ drop (suc at) now → SortedFront old new (suc at)
front_more old now new at to m f lt same read belongs is =
    let lt' : at < length old = omega arith in
    let rests = same_from old now at m f.rest lt lt' read in
    let ins : List Label = insert (take at now) to m in
    let long : length (insert (take at now) to m) ≡ suc at =
    let a : length (insert (take at now) to m) ≡ length (take at now) + 1 = length-insert (take at now) to m belongs.0 in
    let b : length (take at now) ≡ at = length-take-le at now (omega arith) in
    omega arith in
    let front : take (suc at) new ≡ insert (take at now) to m =
    ap (take (suc at)) is ∙ subst (λ (n : ℕ). take n (insert (take at now) to m ++ drop (suc at) now) ≡ insert (take at now) to m) long (take-append_seam (insert (take at now) to m) (drop (suc at) now)) in
    let back : drop (suc at) new ≡ drop (suc at) now =
    ap (drop (suc at)) is ∙ subst (λ (n : ℕ). drop n (insert (take at now) to m ++ drop (suc at) now) ≡ drop (suc at) now) long (drop-append_seam (insert (take at now) to m) (drop (suc at) now)) in
    let taken : take at old ++ m ∷ [] ≡ take (suc at) old = sym (take-suc old at m lt' ∙ ap (λ (x : Label). take at old ++ x ∷ []) rests.0) in
    let moved : IsPermutation (take at old ++ m ∷ []) (insert (take at now) to m) = IsPermutation-push_more (take at old) (take at now) (insert (take at now) to m) m f.moved (IsPermutation-insert (take at now) to m) in
    record {
      moved = subst (λ (xs : List Label). IsPermutation xs (take (suc at) new)) taken (subst (λ (ys : List Label). IsPermutation (take at old ++ m ∷ []) ys) (sym front) moved);
      ascending = subst (IsStrictlySortedBy by_name) (sym front) (belongs.1 m refl);
      rest = back ∙ rests.1;
    }

rotated_at : (now ys : List Label) (to k n : ℕ) (m : Label) → n ≡ suc k → to + k < length now → m ≡ get_or now (to + k) m
    → ys ≡ drop (n - 1) (mid_of to n now) ++ take (n - 1) (mid_of to n now) → put_mid to n now ys ≡ insert (take (to + k) now) to m ++ drop (suc (to + k)) now
rotated_at now ys to k n m n_is lt read is =
    let less : n - 1 ≡ k = omega arith in
    let last : drop k (take (suc k) (drop to now)) ≡ m ∷ [] =
    subst (λ (j : ℕ). drop k (take j (drop to now)) ≡ m ∷ []) (add-one k) (
    drop-take k 1 (drop to now) ∙ (ap (take 1) (drop-drop k to now ∙ (drop-cons now (to + k) m lt ∙ ap (λ (x : Label). x ∷ drop (suc (to + k)) now) (sym read))))) in
    let front : take k (take (suc k) (drop to now)) ≡ drop to (take (to + k) now) = take-take k (suc k) (drop to now) (omega arith) ∙ sym (drop-take to k now) in
    let ys_is : ys ≡ m ∷ drop to (take (to + k) now) =
    is ∙ (subst (λ (j : ℕ). drop j (mid_of to n now) ++ take j (mid_of to n now) ≡ m ∷ drop to (take (to + k) now)) (sym less)
    (subst (λ (j : ℕ). drop k (mid_of to j now) ++ take k (mid_of to j now) ≡ m ∷ drop to (take (to + k) now)) (sym n_is) (rw (last, front) refl))) in
    let behind : drop n (drop to now) ≡ drop (suc (to + k)) now = drop-drop n to now ∙ ap (λ (j : ℕ). drop j now) (let e : to + n ≡ suc (to + k) = omega arith in e) in
    let before : take to (take (to + k) now) ≡ take to now = take-take to (to + k) now (omega arith) in
    rw (ys_is, behind, before) (sym (append_assoc (take to now) (m ∷ drop to (take (to + k) now)) (drop (suc (to + k)) now)))

-- the last of a part moved to the part's front, as `rotate_right(1)` leaves it
pub rotated : (now ys : List Label) (at to : ℕ) (m : Label) → to ≤ at → at < length now → m ≡ get_or now at m
    → ys ≡ drop (length (mid_of to (at + 1 - to) now) - 1) (mid_of to (at + 1 - to) now) ++ take (length (mid_of to (at + 1 - to) now) - 1) (mid_of to (at + 1 - to) now)
    → put_mid to (at + 1 - to) now ys ≡ insert (take at now) to m ++ drop (suc at) now
rotated now ys at to m le lt read is =
    let k_is : to + (at - to) ≡ at = omega arith in
    let behind : length (drop to now) ≡ length now - to = length-drop to now in
    let long : length (mid_of to (at + 1 - to) now) ≡ at + 1 - to = length-take-le (at + 1 - to) (drop to now) (omega arith) in
    let is' = subst (λ (j : ℕ). ys ≡ drop (j - 1) (mid_of to (at + 1 - to) now) ++ take (j - 1) (mid_of to (at + 1 - to) now)) long is in
    subst (λ (j : ℕ). put_mid to (at + 1 - to) now ys ≡ insert (take j now) to m ++ drop (suc j) now) k_is
    (rotated_at now ys to (at - to) (at + 1 - to) m (omega arith) (omega arith) (subst (λ (j : ℕ). m ≡ get_or now j m) (sym k_is) read) is')

pub belongs_within : (ls : List Label) (name : List ℕ) (at to : ℕ) → at ≤ length ls → BelongsAt (take at ls) name (Some to) → to ≤ at
belongs_within ls name at to le b = let e : length (take at ls) ≡ at = length-take-le at ls le in let h : to ≤ length (take at ls) = b.0 in omega arith

-- what std's sort leaves of labels without a repeat
pub sorts_all : (old new : List Label) → repeated_at [] 0 old ≡ None → IsPermutation old new → IsSorted label_cmp new → Sorts old None new
sorts_all old new none moved sorted =
    let distinct = IsDistinct-IsPermutation same_name same_name_turned old new moved (distinct_from_repeated_at old none) in
    let ascending = ascending_from_sort new distinct sorted in
    (none, sorted_is old new moved ascending, ascending)

-- what building keeps of the sorted labels
pub built : (old sorted kept : List Label) (r : Option ℕ) → Sorts old r sorted → r ≡ None → kept ≡ filter has_value sorted → (kept ≡ label_set old) × IsLabelSet kept
built old sorted kept r s none is =
    let done : Sorts old None sorted = subst (λ (q : Option ℕ). Sorts old q sorted) none s in
    let moved : IsPermutation old sorted = subst (IsPermutation old) (sym done.1) (sorted_moves old) in
    (is ∙ set_is old sorted moved done.2, subst IsLabelSet (sym is) (IsLabelSet-valued sorted done.2))

pub built_at : (old sorted : List Label) (r : Option ℕ) (at : ℕ) → Sorts old r sorted → r ≡ Some at → repeated_at [] 0 old ≡ Some at
built_at old sorted r at s is = subst (λ (q : Option ℕ). Sorts old q sorted) is s
