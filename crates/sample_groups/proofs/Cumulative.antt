-- The buckets of a sound histogram's group rise, and those of a whole group rise to the bucket `+Inf`.
use Rattle.std.proofs.Common.{◌≡◌, ℕ, Bool, true, false, not, ◌&&◌, ◌==◌, List, [], ◌∷◌, ◌++◌, map, filter_map, reverse, Option, Some, None, refl, sym, ap, subst, ◌∙◌}
use Rattle.std.specs.Prelude.{⊤}
use Rattle.std.proofs.lemmas.Bool.{and_parts, not-false}
use Rattle.std.proofs.lemmas.List.{append-nil}
use Rattle.std.proofs.lemmas.List.Elements.{filter_map-append}
use Rattle.std.specs.List.{list_all, last_or, cons_option, AllByRecursion}
use Rattle.label_sets.specs.declared.kind.Kind.{Kind}
use Rattle.label_sets.specs.declared.label_set.LabelSet.{LabelSet}
use Rattle.label_sets.specs.Labels.{label_sets_eq}
use Rattle.label_sets.specs.Lists.{first_of_each, some_passes}
use Rattle.page_model.specs.declared.item.Sample.{Sample}
use Rattle.page_model.specs.declared.page.Bucket.{Bucket}
use Rattle.page_model.specs.Written.{Setting}
use Rattle.page_model.specs.Rules.{is_histogram, is_bucket, is_bound, is_up, sample_group, threshold, has_bad_threshold, is_out_of_order}
use Rattle.page_model.specs.Readings.{bucket_of}
use Rattle.page_model.proofs.Laws.{label_sets_decide}
use Rattle.sample_groups.specs.Members.{Member}
use Rattle.sample_groups.specs.declared.part.Part.TheVariants as parts
use Rattle.sample_groups.specs.Parts.{is_grouped, part_of, entry_of}
use Rattle.sample_groups.specs.Groups.{Gathered, bucket_in, group_of_parts, group_from, members_in, parts_in, groups_from, breaks_last, breaks_order, ends_with, is_whole_group}
use Rattle.sample_groups.specs.Sound.{IsSoundSample, AreSound}
use Rattle.sample_groups.proofs.KindCases.{of_histograms}
use Rattle.sample_groups.proofs.Members.{when}
use Rattle.sample_groups.proofs.Steps.{labels_of, group_at, group_is_kept}
use Rattle.sample_groups.proofs.Samples.{bucket_part, is_in_group, entries, values_in-entries}
use Rattle.sample_groups.proofs.Orders.{order_kept}
use mathlib.Core.List.{reverse-cons}

-- ---- buckets that rise

-- each bucket has a bound, and is above the one before it, where one stands there, with no smaller count
abbrev pub AreRising : Option Bucket → List Bucket → Type 0
AreRising before [] = ⊤
AreRising before (b ∷ bs) = (is_bound b.le ≡ true) × (breaks_last before b ≡ false) × AreRising (Some b) bs

-- they rise, and the last of them has no upper bound
pub record RiseToUp (buckets : List Bucket) : Type 0 where
  pub rising : AreRising None buckets
  pub last : some_passes (λ (b : Bucket). is_up b.le) (last_or None buckets) ≡ true

-- one more above the last
rising-snoc : (bs : List Bucket) (before : Option Bucket) (b : Bucket) → AreRising before bs → is_bound b.le ≡ true → breaks_last (last_or before bs) b ≡ false → AreRising before (bs ++ b ∷ [])
rising-snoc [] before b h bound above = (bound, above, tt)
rising-snoc (c ∷ bs) before b h bound above = (h.0, h.1, rising-snoc bs (Some c) b h.2 bound above)

-- ---- one bucket more

-- a bucket with a bound that is allowed
bound_of : (kind : Kind) (family : List ℕ) (s : Sample) → is_histogram kind ≡ true → has_bad_threshold kind family s ≡ false → is_bucket family s ≡ true → is_bound (threshold s) ≡ true
unfolding has_bad_threshold
bound_of kind family s histogram placed e = not-false (is_bound (threshold s)) (of_histograms (λ k. has_bad_threshold k family s ≡ false → not (is_bound (threshold s)) ≡ false) (λ p. rw e at p) (λ p. rw e at p) kind histogram placed)

bucket_is : (family : List ℕ) (s : Sample) → is_bucket family s ≡ true → part_of family s ≡ parts.Bucket (bucket_of s)
unfolding part_of
bucket_is family s e = rw e refl

module _ (st : Setting) (kind : Kind) (family : List ℕ) (histogram : is_histogram kind ≡ true) where
  grouped : is_grouped st.format kind ≡ true
  grouped = rw histogram refl

  -- the buckets of a group
  abbrev buckets_at : List Sample → LabelSet → List Bucket
  buckets_at above labels = filter_map bucket_in (parts_in labels (entries st kind family (reverse above)))

  -- the bucket of a sample of the group
  abbrev bucket_at : LabelSet → Sample → Option Bucket
  bucket_at labels s = when (is_in_group st kind family labels s) (bucket_in (part_of family s))

  buckets_more : (s : Sample) (above : List Sample) (labels : LabelSet) → buckets_at (s ∷ above) labels ≡ buckets_at above labels ++ cons_option (when (is_in_group st kind family labels s) (when (is_bucket family s) (Some (bucket_of s)))) []
  buckets_more s above labels =
      values_in-entries st kind family bucket_in labels (reverse (s ∷ above))
      ∙ ap (filter_map (bucket_at labels)) (reverse-cons s above)
      ∙ filter_map-append (bucket_at labels) (reverse above) (s ∷ [])
      ∙ ap (λ l. l ++ cons_option (bucket_at labels s) []) (sym (values_in-entries st kind family bucket_in labels (reverse above)))
      ∙ ap (λ o. buckets_at above labels ++ cons_option (when (is_in_group st kind family labels s) o) []) (bucket_part family s)

  -- a sound bucket is above the last of its group
  above_last : (s : Sample) (above : List Sample) (labels : LabelSet) → AreSound st kind family above → IsSoundSample st kind family above s → sample_group st kind family s ≡ labels → is_bucket family s ≡ true
      → breaks_last (last_or None (buckets_at above labels)) (bucket_of s) ≡ false
  unfolding group_from group_of_parts
  above_last s above labels sound own group bucket =
      let es : List (LabelSet × Member) = entries st kind family (reverse above) in
      let part : part_of family s ≡ parts.Bucket (bucket_of s) = bucket_is family s bucket in
      let kept : is_out_of_order st kind family above s ≡ breaks_order (group_at es (sample_group st kind family s)) (part_of family s) =
      order_kept st kind family above s grouped sound own.named own.valued own.placed ∙ ap (λ g. breaks_order g (part_of family s)) (group_is_kept es (sample_group st kind family s)) in
      sym (kept ∙ (λ i. breaks_order (group_at es (group i)) (part i))) ∙ own.ordered

  -- the buckets of a group rise
  pub buckets_rise : (above : List Sample) (labels : LabelSet) → AreSound st kind family above → AreRising None (buckets_at above labels)
  unfolding members_in
  buckets_rise [] labels sound = tt
  buckets_rise (s ∷ above) labels sound =
      subst (AreRising None) (sym (buckets_more s above labels)) (by (is_in_group st kind family labels s) (is_bucket family s) refl refl (buckets_rise above labels sound.1))
    where
      by : (g b : Bool) → is_in_group st kind family labels s ≡ g → is_bucket family s ≡ b → AreRising None (buckets_at above labels) → AreRising None (buckets_at above labels ++ cons_option (when g (when b (Some (bucket_of s)))) [])
      by false b e f ih = subst (AreRising None) (sym (append-nil (buckets_at above labels))) ih
      by true false e f ih = subst (AreRising None) (sym (append-nil (buckets_at above labels))) ih
      by true true e f ih =
          rising-snoc (buckets_at above labels) None (bucket_of s) ih (bound_of kind family s histogram sound.0.placed f)
          (above_last s above labels sound.1 sound.0 ((label_sets_decide (sample_group st kind family s) labels).0 e) f)

  -- ---- whole groups

  whole_last : (o : Option Bucket) (g : Gathered) → ends_with o g ≡ true → some_passes (λ (b : Bucket). is_up b.le) o ≡ true
  whole_last None g e = e
  whole_last (Some b) g e = (and_parts (is_up b.le) g.counts_agree (and_parts (is_up b.le && g.counts_agree) (not (some_passes (λ n. not (n == b.count)) g.count)) e).0).0

  -- the buckets of whole groups rise to the bucket `+Inf`
  pub whole_rise : (above : List Sample) → AreSound st kind family above → list_all (λ (g : LabelSet × Gathered). is_whole_group g.1) (groups_from (map (entry_of st kind family) (reverse above))) ≡ true
      → AllByRecursion (λ (g : LabelSet × Gathered). RiseToUp g.1.buckets) (groups_from (map (entry_of st kind family) (reverse above)))
  unfolding groups_from group_from group_of_parts
  whole_rise above sound whole = each (first_of_each label_sets_eq (labels_of (entries st kind family (reverse above)))) whole
    where
      each : (ls : List LabelSet) → list_all (λ (g : LabelSet × Gathered). is_whole_group g.1) (map (λ labels. (labels, group_at (entries st kind family (reverse above)) labels)) ls) ≡ true
          → AllByRecursion (λ (g : LabelSet × Gathered). RiseToUp g.1.buckets) (map (λ labels. (labels, group_at (entries st kind family (reverse above)) labels)) ls)
      each [] h = tt
      each (labels ∷ ls) h =
          let g : Gathered = group_at (entries st kind family (reverse above)) labels in
          let both = and_parts (is_whole_group g) (list_all (λ (x : LabelSet × Gathered). is_whole_group x.1) (map (λ l. (l, group_at (entries st kind family (reverse above)) l)) ls)) h in
          (record { rising = buckets_rise above labels sound; last = whole_last (last_or None g.buckets) g both.0 }, each ls both.1)
