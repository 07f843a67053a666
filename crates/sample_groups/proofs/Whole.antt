-- A histogram's groups are whole just where each of its samples is complete, looking back.
use Rattle.std.proofs.Common.{◌≡◌, ℕ, Bool, true, false, cond, not, ◌&&◌, ◌||◌, ◌==◌, List, [], ◌∷◌, map, filter, filter_map, find, reverse, Option, Some, None, option_map, refl, sym, ap, subst, ◌∙◌, arith}
use Rattle.std.specs.Prelude.{⊤}
use Rattle.std.proofs.lemmas.Bool.Decides.{nat_tests}
use Rattle.std.proofs.lemmas.Bool.{and_parts, or_right, not-false, eqb-true}
use Rattle.std.proofs.lemmas.List.Folds.{list_all-map}
use Rattle.std.specs.List.{list_all}
use Rattle.label_sets.specs.declared.kind.Kind.{Kind}
use Rattle.label_sets.specs.declared.label_set.LabelSet.{LabelSet}
use Rattle.label_sets.specs.Labels.{label_sets_eq}
use Rattle.label_sets.specs.Lists.{first_of_each, some_passes}
use Rattle.exact_decimal.specs.declared.number.Number.{Number}
use Rattle.exact_decimal.specs.declared.number.Number.TheVariants.{Up}
use Rattle.exact_decimal.specs.Order.{less, same}
use Rattle.exact_decimal.proofs.Laws.{whole_same}
use Rattle.page_model.specs.declared.item.Sample.{Sample}
use Rattle.page_model.specs.Written.{Setting}
use Rattle.page_model.specs.Rules.{is_histogram, is_bucket, is_count, sample_group, threshold, is_up, buckets_of_group, breaks_bucket_order, is_complete_at}
use Rattle.page_model.specs.Readings.{bucket_of}
use Rattle.page_model.proofs.Laws.{Member, label_sets_decide, agrees_in, is_complete_group, groups_of, complete_by_groups}
use Rattle.sample_groups.specs.Members.{Member as GroupMember}
use Rattle.sample_groups.specs.declared.part.Part.{Part}
use Rattle.sample_groups.specs.Parts.{part_of, entry_of}
use Rattle.sample_groups.specs.Groups.{Gathered, count_in, are_one, group_of_parts, group_from, parts_in, groups_from, ends_with, is_whole_group}
use Rattle.sample_groups.specs.Sound.{AreSound}
use Rattle.sample_groups.proofs.Members.{when, head_of, first_some-head, none_or, find-member, list_all-reverse, list_all-agree, list_all-filter_map, list_all-first, and_true}
use Rattle.sample_groups.proofs.Steps.{labels_of, group_at, groups_are_keyed}
use Rattle.sample_groups.proofs.Samples.{fair_at, count_of, count_part, whole_in_histogram, is_in_group, entries, labels_of-entries, values_in-entries}
use Rattle.sample_groups.proofs.Orders.{is_bucket_in, last_bucket, order_of, not_followed, nearest}

-- ---- the last bucket

-- no element that passes stands behind one that is marked
abbrev MarkedLast : (Sample → Bool) → (Sample → Bool) → List Sample → Type 0
MarkedLast t marked [] = ⊤
MarkedLast t marked (x ∷ xs) = (t x ≡ true → some_passes marked (find t xs) ≡ false) × MarkedLast t marked xs

-- the element, where it is marked
abbrev where_marked : (Sample → Bool) → Option Sample → Option Sample
where_marked marked None = None
where_marked marked (Some x) = when (marked x) (Some x)

-- so the marked one among those that pass is the first, or none is
marked_first : (t marked : Sample → Bool) (xs : List Sample) → MarkedLast t marked xs → find marked (filter t xs) ≡ where_marked marked (find t xs)
marked_first t marked [] m = refl
marked_first t marked (x ∷ xs) m = by (t x) refl (marked_first t marked xs m.1)
  where
    rest : find marked (filter t xs) ≡ where_marked marked (find t xs) → some_passes marked (find t xs) ≡ false → find marked (filter t xs) ≡ None
    rest more none = more ∙ of (find t xs) none
      where
        of : (o : Option Sample) → some_passes marked o ≡ false → where_marked marked o ≡ None
        of None e = refl
        of (Some y) e = rw e refl

    by : (b : Bool) → t x ≡ b → find marked (filter t xs) ≡ where_marked marked (find t xs) → find marked (cond b (x ∷ filter t xs) (filter t xs)) ≡ where_marked marked (cond b (Some x) (find t xs))
    by true e more = of (marked x) (rest more (m.0 e))
      where
        of : (b : Bool) → find marked (filter t xs) ≡ None → cond b (Some x) (find marked (filter t xs)) ≡ when b (Some x)
        of true none = refl
        of false none = none
    by false e more = more

-- what is below a number is not plus infinity
less_not_up : (a b : Number) → less a b ≡ true → is_up a ≡ false
unfolding less
less_not_up Up b e = absurd cc
less_not_up _ b e = refl

-- ---- counts

-- the first count and all others are this one
pub counts_are : (ns : List ℕ) (m : ℕ) → (are_one ns && not (some_passes (λ n. not (n == m)) (head_of ns))) ≡ list_all (λ n. n == m) ns
counts_are [] m = refl
counts_are (n ∷ ns) m = by (n == m) refl
  where
    by : (b : Bool) → (n == m) ≡ b → (list_all (λ k. n == k) ns && not (not b)) ≡ (b && list_all (λ k. k == m) ns)
    by true e =
        let one : n ≡ m = eqb-true n m e in
        and_true (list_all (λ k. n == k) ns) ∙ list_all-agree (λ k. n == k) (λ k. k == m) ns (λ k _. grind (arith, nat_tests))
    by false e = none (list_all (λ k. n == k) ns)
      where
        none : (b : Bool) → (b && false) ≡ false
        none true = refl
        none false = refl

module _ (st : Setting) (kind : Kind) (family : List ℕ) (histogram : is_histogram kind ≡ true) where
  -- the nearest bucket above a sound one is a lower one, so only the last of a group is unbounded
  unbounded_last : (above : List Sample) (labels : LabelSet) → AreSound st kind family above → MarkedLast (λ t. is_bucket family t && is_in_group st kind family labels t) (λ t. is_up (threshold t)) above
  unfolding buckets_of_group
  unbounded_last [] labels sound = tt
  unbounded_last (s ∷ above) labels sound = (
    λ e.
        let both = and_parts (is_bucket family s) (is_in_group st kind family labels s) e in
        let group : sample_group st kind family s ≡ labels = (label_sets_decide (sample_group st kind family s) labels).0 both.1 in
        let order : (is_bucket family s && breaks_bucket_order (buckets_of_group st kind family above s) s) ≡ false = sym (order_of kind st family above s histogram) ∙ sound.0.ordered in
        let follows : breaks_bucket_order (buckets_of_group st kind family above s) s ≡ false = rw both.0 at order in
        let found : not_followed s (find (λ t. is_bucket family t && is_in_group st kind family (sample_group st kind family s) t) above) ≡ false = sym (nearest (λ t. is_bucket family t && is_in_group st kind family (sample_group st kind family s) t) s above) ∙ follows in
        lower s (find (λ t. is_bucket family t && is_in_group st kind family labels t) above) (subst (λ l. not_followed s (find (λ t. is_bucket family t && is_in_group st kind family l t) above) ≡ false) group found),
    unbounded_last above labels sound.1,
  )
    where
      lower : (s : Sample) (o : Option Sample) → not_followed s o ≡ false → some_passes (λ t. is_up (threshold t)) o ≡ false
      lower s None e = refl
      lower s (Some b) e = less_not_up (threshold b) (threshold s) (and_parts (less (threshold b) (threshold s)) (not (less s.value b.value)) (not-false (less (threshold b) (threshold s) && not (less s.value b.value)) e)).0

  module _ (above : List Sample) (sound : AreSound st kind family above) (labels : LabelSet) where
    -- a count of the group is the bucket's
    one_count : (b : Sample) → Member b above → is_bucket family b ≡ true → (s : Sample) → Member s above
        → none_or (λ n. n == count_of b) (when (is_in_group st kind family labels s) (count_in (part_of family s))) ≡ agrees_in st kind family above labels b s
    one_count b m e s n = ap (λ o. none_or (λ k. k == count_of b) (when (is_in_group st kind family labels s) o)) (count_part family s) ∙ by (is_count family s) (is_in_group st kind family labels s) refl
      where
        by : (c g : Bool) → is_count family s ≡ c → none_or (λ k. k == count_of b) (when g (when c (Some (count_of s)))) ≡ (not (c && g) || same s.value b.value)
        by true true f = sym (whole_same s.value b.value (count_of s) (count_of b)
            (whole_in_histogram kind st family s histogram (fair_at above st kind family sound s n) (or_right (is_bucket family s) (is_count family s) f)) (whole_in_histogram kind st family b histogram (fair_at above st kind family sound b m) (rw e refl)))
        by true false f = refl
        by false true f = refl
        by false false f = refl

    -- the counts of the group are the bucket's
    one_for_all : (b : Sample) → Member b above → is_bucket family b ≡ true
        → ((group_at (entries st kind family (reverse above)) labels).counts_agree && not (some_passes (λ n. not (n == count_of b)) (group_at (entries st kind family (reverse above)) labels).count)) ≡ list_all (agrees_in st kind family above labels b) above
    unfolding group_from group_of_parts
    one_for_all b m e =
        let kept : List Part = parts_in labels (entries st kind family (reverse above)) in
        ap (λ o. are_one (filter_map count_in kept) && not (some_passes (λ n. not (n == count_of b)) o)) (first_some-head count_in kept)
        ∙ counts_are (filter_map count_in kept) (count_of b)
        ∙ ap (list_all (λ n. n == count_of b)) (values_in-entries st kind family count_in labels (reverse above))
        ∙ list_all-filter_map (λ n. n == count_of b) (λ s. when (is_in_group st kind family labels s) (count_in (part_of family s))) (reverse above)
        ∙ list_all-reverse (λ s. none_or (λ n. n == count_of b) (when (is_in_group st kind family labels s) (count_in (part_of family s)))) above
        ∙ list_all-agree (λ s. none_or (λ n. n == count_of b) (when (is_in_group st kind family labels s) (count_in (part_of family s)))) (agrees_in st kind family above labels b) above (one_count b m e)

    -- a group is complete looking back where it is whole as it is kept
    whole_group : is_complete_group st kind family above labels ≡ is_whole_group (group_at (entries st kind family (reverse above)) labels)
    unfolding group_from group_of_parts
    whole_group = ap (some_passes (λ b. list_all (agrees_in st kind family above labels b) above)) (marked_first (is_bucket_in st kind family above labels) (λ t. is_up (threshold t)) above (unbounded_last above labels sound))
        ∙ by (find (is_bucket_in st kind family above labels) above) refl
        ∙ ap (λ o. ends_with o (group_at (entries st kind family (reverse above)) labels)) (sym (last_bucket st kind family above labels))
      where
        unbounded : (b : Sample) → Member b above → is_bucket family b ≡ true → (up : Bool)
            → some_passes (λ x. list_all (agrees_in st kind family above labels x) above) (when up (Some b))
            ≡ (up && (group_at (entries st kind family (reverse above)) labels).counts_agree && not (some_passes (λ n. not (n == count_of b)) (group_at (entries st kind family (reverse above)) labels).count))
        unbounded b m e true = sym (one_for_all b m e)
        unbounded b m e false = refl

        by : (o : Option Sample) → find (is_bucket_in st kind family above labels) above ≡ o
            → some_passes (λ b. list_all (agrees_in st kind family above labels b) above) (where_marked (λ t. is_up (threshold t)) o) ≡ ends_with (option_map bucket_of o) (group_at (entries st kind family (reverse above)) labels)
        by None e = refl
        by (Some b) e =
            let at = find-member (is_bucket_in st kind family above labels) above b e in
            unbounded b at.0 (and_parts (is_bucket family b) (is_in_group st kind family labels b) at.1).0 (is_up (threshold b))

-- all samples of a histogram are complete looking back just where each group is whole as it is kept
pub whole_kept : (st : Setting) (kind : Kind) (family : List ℕ) (above : List Sample) → is_histogram kind ≡ true → AreSound st kind family above
    → list_all (is_complete_at st kind family above) above ≡ list_all (λ (g : LabelSet × Gathered). is_whole_group g.1) (groups_from (map (entry_of st kind family) (reverse above)))
whole_kept st kind family above histogram sound =
    let kept : List (LabelSet × GroupMember) = entries st kind family (reverse above) in
    let is_whole : LabelSet → Bool = λ labels. is_whole_group (group_at kept labels) in
    complete_by_groups st kind family above
    ∙ list_all-agree (is_complete_group st kind family above) is_whole (groups_of st kind family above) (λ labels _. whole_group st kind family histogram above sound labels)
    ∙ list_all-first label_sets_eq label_sets_decide is_whole (map (sample_group st kind family) above)
    ∙ list_all-map is_whole (sample_group st kind family) above
    ∙ sym (list_all-reverse (λ s. is_whole (sample_group st kind family s)) above)
    ∙ sym (list_all-map is_whole (sample_group st kind family) (reverse above))
    ∙ ap (list_all is_whole) (sym (labels_of-entries st kind family (reverse above)))
    ∙ sym (list_all-first label_sets_eq label_sets_decide is_whole (labels_of kept))
    ∙ sym (list_all-map (λ (g : LabelSet × Gathered). is_whole_group g.1) (λ labels. (labels, group_at kept labels)) (first_of_each label_sets_eq (labels_of kept)))
    ∙ ap (list_all (λ (g : LabelSet × Gathered). is_whole_group g.1)) (sym (groups_are_keyed kept))
