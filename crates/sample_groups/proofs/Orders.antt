-- A sample breaks the order of its group just where its part breaks that of the parts that are kept.
use Rattle.std.proofs.Common.{◌≡◌, ℕ, Bool, true, false, not, ◌&&◌, List, [], ◌∷◌, map, filter, filter_map, find, reverse, codes, Option, Some, None, option_map, nat_lt, nat_le, refl, sym, ap, ◌∙◌, if◌then◌else◌, arith}
use Rattle.std.proofs.lemmas.Bool.Decides.{nat_tests}
use Rattle.std.proofs.lemmas.Bool.{and_parts}
use Rattle.std.specs.List.{list_any, last_or}
use Rattle.label_sets.specs.declared.kind.Kind.{Kind}
use Rattle.label_sets.specs.declared.kind.Kind.TheVariants.{Counter, Histogram, GaugeHistogram, Summary}
use Rattle.label_sets.specs.declared.label_set.LabelSet.{LabelSet}
use Rattle.label_sets.specs.Lists.{some_passes}
use Rattle.label_sets.proofs.Laws.{any-reverse}
use Rattle.exact_decimal.specs.Decimals.{DecimalValue}
use Rattle.exact_decimal.specs.declared.number.Number.TheVariants.{Finite}
use Rattle.exact_decimal.specs.Order.{less, same}
use Rattle.exact_decimal.proofs.Laws.{whole_less}
use Rattle.page_model.specs.declared.item.Sample.{Sample}
use Rattle.page_model.specs.declared.page.Bucket.{Bucket}
use Rattle.page_model.specs.declared.page.Quantile.{Quantile}
use Rattle.page_model.specs.Written.{Setting}
use Rattle.page_model.specs.Rules.{is_histogram, has_suffix, is_bucket, is_count, sample_group, in_one_group, threshold, quantile_at, has_wrong_suffix, has_bad_value, has_bad_threshold, buckets_of_group, follows_bucket, breaks_bucket_order, is_out_of_order}
use Rattle.page_model.specs.Readings.{bucket_of, placed_quantile, quantile_of}
use Rattle.page_model.proofs.Laws.{Member}
use Rattle.sample_groups.specs.declared.part.Part.TheVariants as parts
use Rattle.sample_groups.specs.Parts.{is_grouped, quantile_part, part_of, entry_of}
use Rattle.sample_groups.specs.Groups.{Gathered, bucket_in, quantile_in, group_of_parts, group_from, parts_in, groups_from, known_group, or_empty, breaks_last, breaks_order}
use Rattle.sample_groups.specs.Sound.{AreSound}
use Rattle.sample_groups.proofs.KindCases.{of_histograms, of_grouped}
use Rattle.sample_groups.proofs.Members.{when, find-member, first_some-when, last_or-reverse, list_any-agree, list_any-filter_map}
use Rattle.sample_groups.proofs.Steps.{group_at, group_is_kept}
use Rattle.sample_groups.proofs.Samples.{IsFair, fair_at, count_of, bucket_part, own_part, quantile_part_is, whole_in_histogram, place_of, histogram_own, gauge_own, summary_bucket, counter_by, is_in_group, entries, values_in-entries}

-- ---- a part that is neither a bucket nor a quantile

other_part : (family : List ℕ) (s : Sample) (g : Gathered) → is_bucket family s ≡ false → has_suffix family [] s ≡ false → breaks_order g (part_of family s) ≡ false
unfolding part_of
other_part family s g e f = rw (e, f) (by (is_count family s) (has_suffix family (codes "_total") s) (has_suffix family (codes "_created") s))
  where
    by : (b t c : Bool) → breaks_order g (if b then parts.Count (count_of s) else if t then parts.Total s.value else if c then parts.Created s.value else parts.Sum s.value) ≡ false
    by true t c = refl
    by false true c = refl
    by false false true = refl
    by false false false = refl

-- ---- buckets

-- the element that is found is not followed
abbrev pub not_followed : Sample → Option Sample → Bool
not_followed s found = some_passes (λ b. not (follows_bucket b s)) found

pub nearest : (t : Sample → Bool) (s : Sample) (xs : List Sample) → breaks_bucket_order (filter t xs) s ≡ not_followed s (find t xs)
nearest t s [] = refl
nearest t s (x ∷ xs) = by (t x) (nearest t s xs)
  where
    by : (b : Bool) → breaks_bucket_order (filter t xs) s ≡ not_followed s (find t xs) → breaks_bucket_order (if b then x ∷ filter t xs else filter t xs) s ≡ not_followed s (if b then Some x else find t xs)
    by true more = refl
    by false more = more

no_less : (n m : ℕ) → not (nat_lt n m) ≡ nat_le m n
no_less n m = grind (arith, nat_tests)

module _ (st : Setting) (kind : Kind) (family : List ℕ) (above : List Sample) (labels : LabelSet) where
  -- a bucket of the group
  abbrev pub is_bucket_in : Sample → Bool
  is_bucket_in s = is_bucket family s && is_in_group st kind family labels s

  -- the bucket that is kept last is the nearest one above
  pub last_bucket : last_or None (filter_map bucket_in (parts_in labels (entries st kind family (reverse above)))) ≡ option_map bucket_of (find is_bucket_in above)
  last_bucket = ap (last_or None) (values_in-entries st kind family bucket_in labels (reverse above))
      ∙ last_or-reverse (λ s. when (is_in_group st kind family labels s) (bucket_in (part_of family s))) above
      ∙ first_some-when (λ s. when (is_in_group st kind family labels s) (bucket_in (part_of family s))) is_bucket_in bucket_of above (λ s m. ap (when (is_in_group st kind family labels s)) (bucket_part family s) ∙ both (is_in_group st kind family labels s) (is_bucket family s) (bucket_of s))
    where
      both : (b c : Bool) (v : Bucket) → when b (when c (Some v)) ≡ when (c && b) (Some v)
      both true true v = refl
      both true false v = refl
      both false true v = refl
      both false false v = refl

-- the order of a histogram's buckets
pub order_of : (kind : Kind) (st : Setting) (family : List ℕ) (above : List Sample) (s : Sample) → is_histogram kind ≡ true
    → is_out_of_order st kind family above s ≡ (is_bucket family s && breaks_bucket_order (buckets_of_group st kind family above s) s)
unfolding is_out_of_order
order_of kind st family above s histogram =
    of_histograms (λ k. is_out_of_order st k family above s ≡ (is_bucket family s && breaks_bucket_order (buckets_of_group st k family above s) s)) refl refl kind histogram

module _ (st : Setting) (kind : Kind) (family : List ℕ) (above : List Sample) (s : Sample) (histogram : is_histogram kind ≡ true)
    (fair : (t : Sample) → Member t above → IsFair st kind family t) (own : IsFair st kind family s) where
  followed : is_bucket family s ≡ true → (found : Option Sample) → find (is_bucket_in st kind family above (sample_group st kind family s)) above ≡ found → not_followed s found ≡ breaks_last (option_map bucket_of found) (bucket_of s)
  followed e None f = refl
  followed e (Some b) f =
      let at = find-member (is_bucket_in st kind family above (sample_group st kind family s)) above b f in
      let bucket = (and_parts (is_bucket family b) (is_in_group st kind family (sample_group st kind family s) b) at.1).0 in
      let n = whole_in_histogram kind st family s histogram own (rw e refl) in
      let m = whole_in_histogram kind st family b histogram (fair b at.0) (rw bucket refl) in
      ap (λ x. not (less (threshold b) (threshold s) && x)) (ap not (whole_less s.value b.value (count_of s) (count_of b) n m) ∙ no_less (count_of s) (count_of b))

  bucket_order : has_suffix family [] s ≡ false → is_out_of_order st kind family above s ≡ breaks_order (group_at (entries st kind family (reverse above)) (sample_group st kind family s)) (part_of family s)
  unfolding part_of buckets_of_group group_from group_of_parts
  bucket_order named = order_of kind st family above s histogram ∙ by (is_bucket family s) refl
    where
      by : (b : Bool) → is_bucket family s ≡ b → (b && breaks_bucket_order (buckets_of_group st kind family above s) s) ≡ breaks_order (group_at (entries st kind family (reverse above)) (sample_group st kind family s)) (part_of family s)
      by false e = sym (other_part family s (group_at (entries st kind family (reverse above)) (sample_group st kind family s)) e named)
      by true e = rw e (nearest (is_bucket_in st kind family above (sample_group st kind family s)) s above
          ∙ followed e (find (is_bucket_in st kind family above (sample_group st kind family s)) above) refl
          ∙ ap (λ o. breaks_last o (bucket_of s)) (sym (last_bucket st kind family above (sample_group st kind family s))))

-- ---- quantiles

module _ (st : Setting) (family : List ℕ) (above : List Sample) (s : Sample) (fair : (t : Sample) → Member t above → IsFair st Summary family t) (own : IsFair st Summary family s) where
  -- the sample has the group's labels and the place
  abbrev stands_at : LabelSet → DecimalValue → Sample → Bool
  stands_at labels d t = has_suffix family [] t && is_in_group st Summary family labels t && same (quantile_at t) (Finite d)

  placed_same : (d : DecimalValue) (t : Sample) → Member t above → (b c : Bool) → has_suffix family [] t ≡ b
      → (b && c && same (quantile_at t) (Finite d)) ≡ some_passes (λ (p : Quantile). same (Finite p.at) (Finite d)) (when c (when b (quantile_of t)))
  placed_same d t m true true e =
      let place = place_of st family t (fair t m) e in
      rw place.1 refl
  placed_same d t m true false e = refl
  placed_same d t m false true e = refl
  placed_same d t m false false e = refl

  kept_places : (labels : LabelSet) (d : DecimalValue) → list_any (stands_at labels d) above ≡ list_any (λ (p : Quantile). same (Finite p.at) (Finite d)) (filter_map quantile_in (parts_in labels (entries st Summary family (reverse above))))
  kept_places labels d = list_any-agree (stands_at labels d) (λ t. some_passes (λ (p : Quantile). same (Finite p.at) (Finite d)) (when (is_in_group st Summary family labels t) (quantile_in (part_of family t)))) above
      (λ t m. placed_same d t m (has_suffix family [] t) (is_in_group st Summary family labels t) refl
      ∙ ap (λ o. some_passes (λ (p : Quantile). same (Finite p.at) (Finite d)) (when (is_in_group st Summary family labels t) o)) (sym (quantile_part_is family t)))
      ∙ sym (any-reverse (λ t. some_passes (λ (p : Quantile). same (Finite p.at) (Finite d)) (when (is_in_group st Summary family labels t) (quantile_in (part_of family t)))) above)
      ∙ sym (list_any-filter_map (λ (p : Quantile). same (Finite p.at) (Finite d)) (λ t. when (is_in_group st Summary family labels t) (quantile_in (part_of family t))) (reverse above))
      ∙ ap (list_any (λ (p : Quantile). same (Finite p.at) (Finite d))) (sym (values_in-entries st Summary family quantile_in labels (reverse above)))

  quantile_order : is_out_of_order st Summary family above s ≡ breaks_order (group_at (entries st Summary family (reverse above)) (sample_group st Summary family s)) (part_of family s)
  unfolding is_out_of_order group_from group_of_parts
  quantile_order = by (has_suffix family [] s) refl
    where
      by : (b : Bool) → has_suffix family [] s ≡ b → (b && list_any (λ t. has_suffix family [] t && in_one_group st Summary family t s && same (quantile_at t) (quantile_at s)) above)
          ≡ breaks_order (group_at (entries st Summary family (reverse above)) (sample_group st Summary family s)) (part_of family s)
      by false e = sym (other_part family s (group_at (entries st Summary family (reverse above)) (sample_group st Summary family s)) (summary_bucket st family s own) e)
      by true e =
          let place = place_of st family s own e in
          let part : part_of family s ≡ parts.Quantile (record { at = place.0; value = s.value }) = own_part family s e ∙ ap (λ v. quantile_part (placed_quantile v s.value) s.value) place.1 in
          rw (place.1, part) (kept_places (sample_group st Summary family s) place.0)

-- ---- all kinds

-- a counter's samples have no order
no_order : (st : Setting) (family : List ℕ) (above : List Sample) (s : Sample) → is_out_of_order st Counter family above s ≡ false
unfolding is_out_of_order
no_order st family above s = refl

-- a sample breaks the order looking back just where its part breaks that of what is kept
pub order_kept : (st : Setting) (kind : Kind) (family : List ℕ) (above : List Sample) (s : Sample) → is_grouped st.format kind ≡ true → AreSound st kind family above
    → has_wrong_suffix st kind family s ≡ false → has_bad_value st.format kind family s ≡ false → has_bad_threshold kind family s ≡ false
    → is_out_of_order st kind family above s ≡ breaks_order (or_empty (known_group (groups_from (map (entry_of st kind family) (reverse above))) (sample_group st kind family s))) (part_of family s)
order_kept st kind family above s grouped sound named valued placed =
    of_grouped st.format (λ k. ((t : Sample) → Member t above → IsFair st k family t) → IsFair st k family s → is_out_of_order st k family above s ≡ breaks_order (group_at (entries st k family (reverse above)) (sample_group st k family s)) (part_of family s)) (record {
      histogram = λ fair own. bucket_order st Histogram family above s refl fair own (histogram_own st family s own);
      gauge = λ fair own. bucket_order st GaugeHistogram family above s refl fair own (gauge_own st family s own);
      summary = λ fair own. quantile_order st family above s fair own;
      counter = λ is fair own. no_order st family above s ∙ sym (counter_by st family s is own (λ x p. breaks_order (group_at (entries st Counter family (reverse above)) (sample_group st Counter family s)) p ≡ false) refl refl);
    }) kind grouped (fair_at above st kind family sound) (record { named = named; valued = valued; placed = placed })
    ∙ ap (λ g. breaks_order g (part_of family s)) (sym (group_is_kept (entries st kind family (reverse above)) (sample_group st kind family s)))
