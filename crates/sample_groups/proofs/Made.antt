-- The readings of a family, looking back over its samples, are those of its groups as they are kept.
use Rattle.std.proofs.Common.{◌≡◌, ℕ, Bool, true, false, not, ◌||◌, ◌==◌, List, [], ◌∷◌, map, filter, filter_map, find, reverse, length, codes, Option, Some, None, is_some, cond, option_map, option_and_then, refl, sym, ap, ◌∙◌, suc, arith}
use Rattle.std.proofs.lemmas.Bool.Decides.{nat_tests}
use Rattle.std.specs.List.{list_any, cons_option}
use Rattle.std.specs.Option.{option_or, option_flatten}
use Rattle.label_sets.specs.declared.kind.Kind.{Kind}
use Rattle.label_sets.specs.declared.kind.Kind.TheVariants.{Counter, Histogram, GaugeHistogram, Summary}
use Rattle.label_sets.specs.declared.label_set.LabelSet.{LabelSet}
use Rattle.label_sets.specs.Labels.{label_sets_eq}
use Rattle.label_sets.specs.Lists.{first_of_each, first_some, when_true}
use Rattle.label_sets.proofs.Laws.{any-map}
use Rattle.exact_decimal.specs.declared.number.Number.{Number}
use Rattle.exact_decimal.specs.Order.{whole}
use Rattle.page_model.specs.declared.format.Format.{Format}
use Rattle.page_model.specs.declared.format.Format.TheVariants.{Text, OpenMetrics}
use Rattle.page_model.specs.declared.item.Exemplar.{Exemplar}
use Rattle.page_model.specs.declared.item.Sample.{Sample}
use Rattle.page_model.specs.declared.page.Reading.{Reading}
use Rattle.page_model.specs.declared.page.Value.{Value}
use Rattle.page_model.specs.declared.page.Value.TheVariants as values
use Rattle.page_model.specs.Written.{Setting}
use Rattle.page_model.specs.Rules.{has_suffix, is_bucket, may_have_exemplar, sample_group}
use Rattle.page_model.specs.Readings.{value_with, either_value, bucket_of, buckets_of, quantile_of, quantiles_of, sum_of, is_measured, counter_suffix, value_of, stamp_of, exemplars_of, key_name, reading_of, readings_of}
use Rattle.page_model.proofs.Laws.{Member, stamp_in, stamp_kept}
use Rattle.sample_groups.specs.Members.{Member as GroupMember}
use Rattle.sample_groups.specs.declared.part.Part.{Part}
use Rattle.sample_groups.specs.Parts.{is_grouped, part_of, member_of, entry_of}
use Rattle.sample_groups.specs.Groups.{Gathered, bucket_in, quantile_in, sum_in, count_in, total_in, created_in, time_in, exemplar_in, group_of_parts, group_from, members_in, parts_in, groups_from, is_measured_group, group_value, reading_from}
use Rattle.sample_groups.specs.Sound.{AreSound}
use Rattle.sample_groups.proofs.KindCases.{of_grouped}
use Rattle.sample_groups.proofs.Members.{when, filter_map-map, filter_map-filter, filter_map-agree, filter_map-when, first_some-map, first_some-agree, first_some-when, list_any-agree, find-none, find-member, member-filter, member-reverse}
use Rattle.sample_groups.proofs.Steps.{labels_of, group_at, groups_are_keyed}
use Rattle.sample_groups.proofs.Samples.{IsFair, fair_at, count_of, is_measured_part, bucket_part, count_part, quantile_part_is, whole_in_summary, created_is, measured_is, bears_is, same_time, counter_total, histogram_gsum, histogram_sum, gauge_no_sum, gauge_sum, summary_gsum, summary_count, summary_sum, summary_measured, is_in_group, entries, labels_of-entries, members_in-entries, parts_in-entries}

-- ---- the parts of one group's samples

module _ (family : List ℕ) (own : List Sample) where
  -- the parts of these samples
  abbrev own_parts : List Part
  own_parts = map (part_of family) own

  own_buckets : buckets_of family own ≡ filter_map bucket_in own_parts
  unfolding buckets_of
  own_buckets = sym (filter_map-map bucket_in (part_of family) own ∙ filter_map-agree (λ s. bucket_in (part_of family s)) (λ s. when (is_bucket family s) (Some (bucket_of s))) own (λ s m. bucket_part family s) ∙ filter_map-when (is_bucket family) bucket_of own)

  own_quantiles : quantiles_of family own ≡ filter_map quantile_in own_parts
  unfolding quantiles_of
  own_quantiles = filter_map-filter quantile_of (has_suffix family []) own
      ∙ sym (filter_map-map quantile_in (part_of family) own ∙ filter_map-agree (λ s. quantile_in (part_of family s)) (λ s. when (has_suffix family [] s) (quantile_of s)) own (λ s m. quantile_part_is family s))

  -- the first value with a suffix that just these parts have
  own_value : (f : Part → Option Number) (suffix : List ℕ) → ((s : Sample) → Member s own → f (part_of family s) ≡ when (has_suffix family suffix s) (Some s.value)) → value_with family suffix own ≡ first_some f own_parts
  unfolding value_with
  own_value f suffix is = sym (first_some-map f (part_of family) own ∙ first_some-when (λ s. f (part_of family s)) (has_suffix family suffix) (λ (s : Sample). s.value) own is)

  -- no value has a suffix that no sample has
  no_value : (suffix : List ℕ) → ((s : Sample) → Member s own → has_suffix family suffix s ≡ false) → value_with family suffix own ≡ None
  unfolding value_with
  no_value suffix none = ap (option_map (λ (s : Sample). s.value)) (find-none (has_suffix family suffix) own none)

  own_sum : ((s : Sample) → Member s own → sum_in (part_of family s) ≡ when (has_suffix family (codes "_sum") s) (Some s.value)) → ((s : Sample) → Member s own → has_suffix family (codes "_gsum") s ≡ false) → sum_of family own ≡ first_some sum_in own_parts
  unfolding sum_of
  own_sum is none = rw (no_value (codes "_gsum") none, own_value sum_in (codes "_sum") is) (nothing (first_some sum_in own_parts))
    where
      nothing : (o : Option Number) → either_value o None ≡ o
      nothing None = refl
      nothing (Some n) = refl

  own_gsum : ((s : Sample) → Member s own → sum_in (part_of family s) ≡ when (has_suffix family (codes "_gsum") s) (Some s.value)) → ((s : Sample) → Member s own → has_suffix family (codes "_sum") s ≡ false) → sum_of family own ≡ first_some sum_in own_parts
  unfolding sum_of
  own_gsum is none = rw (no_value (codes "_sum") none, own_value sum_in (codes "_gsum") is) refl

  -- the first count, which is whole
  own_count : ((s : Sample) → Member s own → count_in (part_of family s) ≡ when (has_suffix family (codes "_count") s) (Some (count_of s))) → ((s : Sample) → Member s own → has_suffix family (codes "_count") s ≡ true → whole s.value ≡ Some (count_of s))
      → option_and_then whole (value_with family (codes "_count") own) ≡ first_some count_in own_parts
  unfolding value_with
  own_count is wholes = of (find (has_suffix family (codes "_count")) own) refl
      ∙ sym (first_some-map count_in (part_of family) own ∙ first_some-when (λ s. count_in (part_of family s)) (has_suffix family (codes "_count")) count_of own is)
    where
      of : (o : Option Sample) → find (has_suffix family (codes "_count")) own ≡ o → option_and_then whole (option_map (λ (s : Sample). s.value) (find (has_suffix family (codes "_count")) own)) ≡ option_map count_of (find (has_suffix family (codes "_count")) own)
      of None e = rw e refl
      of (Some s) e = let at = find-member (has_suffix family (codes "_count")) own s e in rw e (wholes s at.0 at.1)

-- ---- a group with more than a created time

some_in : {B : Type 0} (f : Part → Option B) (ps : List Part) → not (length (filter_map f ps) == 0) ≡ list_any (λ p. is_some (f p)) ps
some_in f [] = refl
some_in {B = B} f (p ∷ ps) = by (f p) (some_in f ps)
  where
    by : (o : Option B) → not (length (filter_map f ps) == 0) ≡ list_any (λ q. is_some (f q)) ps → not (length (cons_option o (filter_map f ps)) == 0) ≡ (is_some o || list_any (λ q. is_some (f q)) ps)
    by None more = more
    by (Some y) more = some (length (filter_map f ps))
      where
        some : (n : ℕ) → not (suc n == 0) ≡ true
        some n = grind (arith, nat_tests)

first_in : {B : Type 0} (f : Part → Option B) (ps : List Part) → is_some (first_some f ps) ≡ list_any (λ p. is_some (f p)) ps
first_in f [] = refl
first_in {B = B} f (p ∷ ps) = by (f p) (first_in f ps)
  where
    by : (o : Option B) → is_some (first_some f ps) ≡ list_any (λ q. is_some (f q)) ps → is_some (option_or o (first_some f ps)) ≡ (is_some o || list_any (λ q. is_some (f q)) ps)
    by None more = more
    by (Some y) more = refl

any_of : (a b c : Part → Bool) (ps : List Part) → (list_any a ps || list_any b ps || list_any c ps) ≡ list_any (λ p. a p || b p || c p) ps
any_of a b c [] = refl
any_of a b c (p ∷ ps) = by (a p) (b p) (c p) (list_any a ps) (list_any b ps) (list_any c ps) ∙ ap (λ t. (a p || b p || c p) || t) (any_of a b c ps)
  where
    by : (x y z u v w : Bool) → ((x || u) || (y || v) || (z || w)) ≡ ((x || y || z) || (u || v || w))
    by true y z u v w = refl
    by false true z true v w = refl
    by false true z false v w = refl
    by false false true true v w = refl
    by false false true false true w = refl
    by false false true false false w = refl
    by false false false u v w = refl

measured_group : (ps : List Part) (first : Option (Option ℕ)) (exemplars : List Exemplar) → is_measured_group (group_of_parts ps first exemplars) ≡ list_any is_measured_part ps
unfolding group_of_parts
measured_group ps first exemplars = (λ i. some_in quantile_in ps i || first_in count_in ps i || first_in sum_in ps i) ∙ any_of (λ p. is_some (quantile_in p)) (λ p. is_some (count_in p)) (λ p. is_some (sum_in p)) ps

-- ---- the reading of one group

-- a grouped counter's own sample has this suffix
total_suffix : (f : Format) → is_grouped f Counter ≡ true → counter_suffix f ≡ codes "_total"
total_suffix OpenMetrics grouped = refl
total_suffix Text grouped = absurd (let no : false ≡ true = grouped in cc)

module _ (st : Setting) (family : List ℕ) (samples : List Sample) (labels : LabelSet) where
  -- the samples of the group, and what is kept of it
  abbrev own : Kind → List Sample
  own kind = filter (is_in_group st kind family labels) samples

  abbrev kept : Kind → Gathered
  kept kind = group_at (entries st kind family samples) labels

  in_kept : {B : Type 0} (kind : Kind) (f : List Part → B) → f (map (part_of family) (own kind)) ≡ f (parts_in labels (entries st kind family samples))
  in_kept kind f = ap f (sym (parts_in-entries st kind family labels samples))

  -- the members of the group
  abbrev members : Kind → List GroupMember
  members kind = members_in labels (entries st kind family samples)

  in_members : {B : Type 0} (kind : Kind) (f : List GroupMember → B) → f (map (member_of st.format family) (own kind)) ≡ f (members kind)
  in_members kind f = ap f (sym (members_in-entries st kind family labels samples))

  -- what is so of all samples is so of the group's
  module _ (kind : Kind) (fair : (s : Sample) → Member s samples → IsFair st kind family s) where
    own_fair : (s : Sample) → Member s (own kind) → IsFair st kind family s
    own_fair s m = fair s (member-filter (is_in_group st kind family labels) samples s m).0

    own_created : is_grouped st.format kind ≡ true → value_with family (codes "_created") (own kind) ≡ (kept kind).created
    unfolding group_from group_of_parts
    own_created grouped = own_value family (own kind) created_in (codes "_created") (λ s m. created_is kind st family s grouped (own_fair s m)) ∙ in_kept kind (first_some created_in)

    -- a sample gives its group the time that its page gives the reading, where it is the first that is more than a created time
    sample_stamp : is_grouped st.format kind ≡ true → (s : Sample) → Member s (own kind) → stamp_in st.format family s ≡ time_in (member_of st.format family s)
    sample_stamp grouped s m =
        let measured = sym (measured_is kind st family s grouped (own_fair s m)) in
        let time = same_time st.format s.stamp in
        λ i. when_true (measured i) (time i)

    own_stamp : is_grouped st.format kind ≡ true → stamp_of st.format family (own kind) ≡ option_flatten (kept kind).first
    unfolding group_from group_of_parts
    own_stamp grouped =
        stamp_kept st.format family (own kind)
        ∙ ap option_flatten (first_some-agree (stamp_in st.format family) (λ s. time_in (member_of st.format family s)) (own kind) (sample_stamp grouped)
        ∙ sym (first_some-map time_in (member_of st.format family) (own kind)) ∙ in_members kind (first_some time_in))

    own_exemplars : is_grouped st.format kind ≡ true → exemplars_of kind family (own kind) ≡ (kept kind).exemplars
    unfolding exemplars_of group_from group_of_parts
    own_exemplars grouped =
        filter_map-filter (λ (s : Sample). s.exemplar) (may_have_exemplar kind family) (own kind)
        ∙ filter_map-agree (λ (s : Sample). when (may_have_exemplar kind family s) s.exemplar) (λ s. exemplar_in (member_of st.format family s)) (own kind)
        (λ s m. ap (λ b. when b s.exemplar) (bears_is kind st family s grouped (own_fair s m)))
        ∙ sym (filter_map-map exemplar_in (member_of st.format family) (own kind)) ∙ in_members kind (filter_map exemplar_in)

  kept_buckets : (kind : Kind) → buckets_of family (own kind) ≡ filter_map bucket_in (parts_in labels (entries st kind family samples))
  kept_buckets kind = own_buckets family (own kind) ∙ in_kept kind (filter_map bucket_in)

  module _ (unit : List ℕ) where
    -- the reading of a value, a created time, a time and exemplars
    abbrev reading_with : Kind → Option Value → Option Number → Option ℕ → List Exemplar → Option Reading
    reading_with kind value created stamp exemplars = option_map (λ v. record {
      key = record { name = key_name st.format kind family; kind = kind; unit = unit; labels = labels };
      value = v;
      created = created;
      stamp = stamp;
      exemplars = exemplars;
    }) value

    counter_reading : (fair : (s : Sample) → Member s samples → IsFair st Counter family s) → is_grouped st.format Counter ≡ true
        → reading_of st Counter family unit samples labels ≡ reading_from st.format Counter family unit (labels, kept Counter)
    unfolding reading_of value_of group_from group_of_parts
    counter_reading fair grouped =
        let total = own_value family (own Counter) total_in (codes "_total") (λ s m. counter_total st family s grouped (own_fair Counter fair s m)) ∙ in_kept Counter (first_some total_in) in
        let value : value_of st.format Counter family (own Counter) ≡ group_value Counter (kept Counter)
        = ap (λ suffix. option_map values.Plain (value_with family suffix (own Counter))) (total_suffix st.format grouped) ∙ ap (option_map values.Plain) total in
        let created = own_created Counter fair grouped in
        let stamp = own_stamp Counter fair grouped in
        let exemplars = own_exemplars Counter fair grouped in
        λ i. reading_with Counter (value i) (created i) (stamp i) (exemplars i)

    histogram_reading : (fair : (s : Sample) → Member s samples → IsFair st Histogram family s) → reading_of st Histogram family unit samples labels ≡ reading_from st.format Histogram family unit (labels, kept Histogram)
    unfolding reading_of value_of group_from group_of_parts
    histogram_reading fair =
        let sum = own_sum family (own Histogram) (λ s m. histogram_sum st family s (own_fair Histogram fair s m)) (λ s m. histogram_gsum st family s (own_fair Histogram fair s m)) ∙ in_kept Histogram (first_some sum_in) in
        let buckets = kept_buckets Histogram in
        let created = own_created Histogram fair refl in
        let stamp = own_stamp Histogram fair refl in
        let exemplars = own_exemplars Histogram fair refl in
        λ i. reading_with Histogram (Some (values.Buckets (buckets i) (sum i))) (created i) (stamp i) (exemplars i)

    gauge_reading : (fair : (s : Sample) → Member s samples → IsFair st GaugeHistogram family s) → reading_of st GaugeHistogram family unit samples labels ≡ reading_from st.format GaugeHistogram family unit (labels, kept GaugeHistogram)
    unfolding reading_of value_of group_from group_of_parts
    gauge_reading fair =
        let sum = own_gsum family (own GaugeHistogram) (λ s m. gauge_sum st family s (own_fair GaugeHistogram fair s m)) (λ s m. gauge_no_sum st family s (own_fair GaugeHistogram fair s m)) ∙ in_kept GaugeHistogram (first_some sum_in) in
        let buckets = kept_buckets GaugeHistogram in
        let created = own_created GaugeHistogram fair refl in
        let stamp = own_stamp GaugeHistogram fair refl in
        let exemplars = own_exemplars GaugeHistogram fair refl in
        λ i. reading_with GaugeHistogram (Some (values.Buckets (buckets i) (sum i))) (created i) (stamp i) (exemplars i)

    summary_reading : (fair : (s : Sample) → Member s samples → IsFair st Summary family s) → reading_of st Summary family unit samples labels ≡ reading_from st.format Summary family unit (labels, kept Summary)
    unfolding reading_of value_of group_from group_of_parts members_in
    summary_reading fair =
        let parts : List Part = parts_in labels (entries st Summary family samples) in
        let quantiles = own_quantiles family (own Summary) ∙ in_kept Summary (filter_map quantile_in) in
        let count = own_count family (own Summary) (λ s m. count_part family s ∙ ap (λ b. when b (Some (count_of s))) (summary_count st family s (own_fair Summary fair s m)))
        (λ s m e. whole_in_summary st family s (own_fair Summary fair s m) (summary_count st family s (own_fair Summary fair s m) ∙ e)) ∙ in_kept Summary (first_some count_in) in
        let sum = own_sum family (own Summary) (λ s m. summary_sum st family s (own_fair Summary fair s m)) (λ s m. summary_gsum st family s (own_fair Summary fair s m)) ∙ in_kept Summary (first_some sum_in) in
        let measured : list_any (is_measured family) (own Summary) ≡ is_measured_group (kept Summary) =
        sym (measured_group parts (first_some time_in (members Summary)) (filter_map exemplar_in (members Summary)) ∙ sym (in_kept Summary (list_any is_measured_part)) ∙ any-map is_measured_part (part_of family) (own Summary)
        ∙ list_any-agree (λ s. is_measured_part (part_of family s)) (is_measured family) (own Summary) (λ s m. summary_measured st family s (own_fair Summary fair s m))) in
        let created = own_created Summary fair refl in
        let stamp = own_stamp Summary fair refl in
        let exemplars = own_exemplars Summary fair refl in
        λ i. reading_with Summary (cond (measured i) (Some (values.Quantiles (quantiles i) (count i) (sum i))) None) (created i) (stamp i) (exemplars i)

-- ---- the readings of a family

module _ (st : Setting) (kind : Kind) (family unit : List ℕ) (samples : List Sample) where
  -- the groups of the samples
  abbrev groups : List LabelSet
  groups = first_of_each label_sets_eq (map (sample_group st kind family) samples)

  each_reading : ((labels : LabelSet) → reading_of st kind family unit samples labels ≡ reading_from st.format kind family unit (labels, group_at (entries st kind family samples) labels))
      → filter_map (reading_of st kind family unit samples) groups ≡ filter_map (reading_from st.format kind family unit) (groups_from (entries st kind family samples))
  each_reading each =
      filter_map-agree (reading_of st kind family unit samples) (λ labels. reading_from st.format kind family unit (labels, group_at (entries st kind family samples) labels)) groups (λ labels _. each labels)
      ∙ ap (λ ls. filter_map (λ labels. reading_from st.format kind family unit (labels, group_at (entries st kind family samples) labels)) (first_of_each label_sets_eq ls)) (sym (labels_of-entries st kind family samples))
      ∙ sym (filter_map-map (reading_from st.format kind family unit) (λ labels. (labels, group_at (entries st kind family samples) labels)) (first_of_each label_sets_eq (labels_of (entries st kind family samples))))
      ∙ ap (filter_map (reading_from st.format kind family unit)) (sym (groups_are_keyed (entries st kind family samples)))

-- the readings looking back are those of the groups as they are kept
pub readings_made : (st : Setting) (kind : Kind) (family unit : List ℕ) (above : List Sample) → is_grouped st.format kind ≡ true → AreSound st kind family above
    → readings_of st kind family unit (reverse above) ≡ filter_map (reading_from st.format kind family unit) (groups_from (map (entry_of st kind family) (reverse above)))
unfolding readings_of
readings_made st kind family unit above grouped sound =
    of_grouped st.format (λ k. ((s : Sample) → Member s (reverse above) → IsFair st k family s) → readings_of st k family unit (reverse above) ≡ filter_map (reading_from st.format k family unit) (groups_from (entries st k family (reverse above)))) (record {
      histogram = λ fair. each_reading st Histogram family unit (reverse above) (λ labels. histogram_reading st family (reverse above) labels unit fair);
      gauge = λ fair. each_reading st GaugeHistogram family unit (reverse above) (λ labels. gauge_reading st family (reverse above) labels unit fair);
      summary = λ fair. each_reading st Summary family unit (reverse above) (λ labels. summary_reading st family (reverse above) labels unit fair);
      counter = λ is fair. each_reading st Counter family unit (reverse above) (λ labels. counter_reading st family (reverse above) labels unit fair is);
    }) kind grouped (λ s m. fair_at above st kind family sound s (member-reverse above s m))
