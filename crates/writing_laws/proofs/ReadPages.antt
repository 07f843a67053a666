-- Each page that a text says has the form, also where readings, timestamps and exemplars are taken out.
use Rattle.std.proofs.Common.{◌≡◌, ℕ, ◌≤◌, Bool, true, false, cond, not, ◌&&◌, List, [], ◌∷◌, ◌++◌, map, filter, filter_map, reverse, length, codes, Option, Some, None, option_map, option_and_then, refl, sym, ap, subst, ◌∙◌, arith, inl}
use Rattle.std.specs.Prelude.{unwrap_or}
use Rattle.std.specs.List.{list_any, list_all, cons_option, AllByRecursion, IsDistinct}
use Rattle.std.specs.Str.{bytes_eq}
use Rattle.std.proofs.lemmas.Bool.{and_from, not_from_false}
use Rattle.std.proofs.lemmas.Option.{same_Some}
use Rattle.std.proofs.lemmas.List.Elements.{All-from_recursion, recursion_from_All}
use Rattle.std.proofs.lemmas.Simd.{map-map}
use Rattle.label_sets.specs.declared.kind.Kind.{Kind}
use Rattle.label_sets.specs.declared.kind.Kind.TheVariants.{Counter, Gauge, Histogram, GaugeHistogram, StateSet, Info, Summary, Unknown}
use Rattle.label_sets.specs.declared.label_set.LabelSet.{LabelSet}
use Rattle.label_sets.specs.Lists.{first_of_each, first_some, rest_while}
use Rattle.label_sets.specs.Labels.{label_sets_eq}
use Rattle.label_sets.specs.Names.{is_metric_name, is_metric_char}
use Rattle.label_sets.proofs.Laws.{all-append, all-weaker, all-reverse, all-filter, rest-none, length-inserted}
use Rattle.exact_decimal.specs.declared.number.Number.{Number}
use Rattle.exact_decimal.specs.declared.number.Number.TheVariants.{Finite}
use Rattle.exact_decimal.specs.Numbers.{number_of}
use Rattle.exact_decimal.specs.Literals.{number_text}
use Rattle.exact_decimal.specs.Order.{same, whole}
use Rattle.page_model.specs.declared.format.Format.{Format}
use Rattle.page_model.specs.declared.format.Format.TheVariants.{Text, OpenMetrics}
use Rattle.page_model.specs.declared.format.Treatment.{Treatment}
use Rattle.page_model.specs.declared.format.Treatment.TheVariants as treatments
use Rattle.page_model.specs.declared.item.Item.{Item}
use Rattle.page_model.specs.declared.item.Sample.{Sample}
use Rattle.page_model.specs.declared.page.Bucket.{Bucket}
use Rattle.page_model.specs.declared.page.Quantile.{Quantile}
use Rattle.page_model.specs.declared.page.Value.{Value}
use Rattle.page_model.specs.declared.page.Value.TheVariants as values
use Rattle.page_model.specs.declared.page.Reading.{Reading}
use Rattle.page_model.specs.declared.page.Family.{Family}
use Rattle.page_model.specs.declared.page.Page.{Page}
use Rattle.page_model.specs.Written.{Setting, open_setting, label_limit}
use Rattle.page_model.specs.Owners.{Owned, kind_of, owned_lines, samples_of, kept_labels, group_of}
use Rattle.page_model.specs.Rules.{is_open_metrics, is_info_or_state_set, is_unit, is_foreign_unit, is_histogram, has_suffix, quantile_at, has_wrong_suffix, has_bad_value, has_bad_threshold, is_out_of_order, sample_group, in_one_group}
use Rattle.page_model.specs.Faults.{end_fault}
use Rattle.page_model.specs.Readings.{value_with, buckets_of, quantiles_of, sum_of, is_measured, counter_suffix, value_of, key_name, reading_labels, stamp_of, exemplars_of, reading_of, readings_of, unit_in, family_of, families_of, page_of}
use Rattle.page_model.specs.Pages.{items_of, AreFaultless, IsPageOf, AreSomeOf}
use Rattle.page_model.proofs.Laws.{label_sets_decide, kind_of_page, some_skipped, some_filtered}
use Rattle.sample_groups.specs.Sound.{AreSound}
use Rattle.family_rules.proofs.Laws.{AreFit, fit_lines, sound_samples, reversed_samples, IsValueOf, HaveValuesOf, page_values, AreTogether, together_samples, free_lines}
use Rattle.open_writing.specs.Writing.{number_sample, with_number_label, bucket_sample, quantile_sample, total_samples, value_samples, reading_samples, written_text}
use Rattle.open_writing.specs.Forms.{is_kind_in, stand_together, label_sets_of, IsFormedReading, IsFormedFamily, AreFormed}
use Rattle.writing_laws.specs.WritingLaws.{ReadPagesAreFormed, OpenFormsAreWritable, OpenFormsReadBack}
use Rattle.writing_laws.proofs.Turned.{all-map, all-of, any-none, none-any, Pairs}
use Rattle.writing_laws.proofs.FairParts.{NoPlace}
use Rattle.writing_laws.proofs.FewLines.{firsts_distinct}
use Rattle.writing_laws.proofs.ReadBack.{reads_back}
use Rattle.writing_laws.proofs.ThinnerPages.{some_all, some_distinct, some_mapped, some_together, thin_forms, thin_distinct}
use Rattle.writing_laws.proofs.ReadItems.{IsFormedSample, IsFormedItem, IsFormedOwned, formed_lines, formed_owned}
use Rattle.writing_laws.proofs.ReadFamilies.{pairs-reverse, formed_kind, formed_help, formed_unit, format_unit, sampled, own_unit, allowed_unit, samples_together}
use Rattle.writing_laws.proofs.ReadParts.{IsKeptSet, kept_reading, no_place_in, IsPart}
use Rattle.writing_laws.proofs.ReadValues.{formed_time, IsReadBucket, read_buckets}
use Rattle.writing_laws.proofs.ReadSummaries.{IsReadQuantile, read_quantiles, Placed, formed_value}
use Rattle.writing_laws.proofs.PutLabels.{without_absent}

-- ---- lists of which some elements are left

pub firsts_some : {A : Type 0} (eq : A → A → Bool) (xs : List A) → AreSomeOf (λ a b. b ≡ a) xs (first_of_each eq xs)
firsts_some eq [] = tt
firsts_some eq (x ∷ xs) = inl (refl, some_filtered (λ a b. b ≡ a) (λ y. not (eq x y)) xs (first_of_each eq xs) (firsts_some eq xs))

pairs_filter : {A : Type 0} (R : A → A → Type 0) (p : A → Bool) (xs : List A) → Pairs R xs → Pairs R (filter p xs)
pairs_filter R p [] h = tt
pairs_filter R p (x ∷ xs) h = go (p x) (pairs_filter R p xs h.1)
  where
    go : (b : Bool) → Pairs R (filter p xs) → Pairs R (cond b (x ∷ filter p xs) (filter p xs))
    go true ih = (all-filter (R x) p xs h.0, ih)
    go false ih = ih

distinct_together : (gs : List LabelSet) → IsDistinct label_sets_eq gs → stand_together gs ≡ true
unfolding IsDistinct stand_together
distinct_together [] d = refl
distinct_together (g ∷ gs) d =
    and_from (not (list_any (label_sets_eq g) (rest_while (label_sets_eq g) gs))) (stand_together gs)
    (not_from_false _ (rest-none (label_sets_eq g) gs (none-any (label_sets_eq g) gs d.0))) (distinct_together gs d.1)

-- ---- the samples of a family

-- a sample that breaks no rule by itself
record IsGoodSample (st : Setting) (kind : Kind) (family : List ℕ) (s : Sample) : Type 0 where
  formed : IsFormedSample st.treatment s
  named : has_wrong_suffix st kind family s ≡ false
  valued : has_bad_value st.format kind family s ≡ false
  placed : has_bad_threshold kind family s ≡ false

-- the labels of a reading
record IsReadLabels (st : Setting) (kind : Kind) (labels : LabelSet) : Type 0 where
  kept : IsKeptSet st.treatment labels
  free : NoPlace kind labels

good_samples : (st : Setting) (kind : Kind) (family : List ℕ) (ss : List Sample) → AllByRecursion (IsFormedSample st.treatment) ss → AreSound st kind family ss → AllByRecursion (IsGoodSample st kind family) ss
good_samples st kind family [] h sound = tt
good_samples st kind family (s ∷ ss) h sound = (record { formed = h.0; named = sound.0.named; valued = sound.0.valued; placed = sound.0.placed }, good_samples st kind family ss h.1 sound.1)

-- a quantile's sample and one behind it
abbrev AreApartQuantiles : Setting → List ℕ → Sample → Sample → Type 0
AreApartQuantiles st family t s = has_suffix family [] s ≡ true → (has_suffix family [] t && in_one_group st Summary family t s && same (quantile_at t) (quantile_at s)) ≡ false

quantile_pairs : (st : Setting) (family : List ℕ) (ss : List Sample) → AreSound st Summary family ss → Pairs (λ s t. AreApartQuantiles st family t s) ss
unfolding is_out_of_order
quantile_pairs st family [] sound = tt
quantile_pairs st family (s ∷ ss) sound = (by (has_suffix family [] s) refl sound.0.ordered, quantile_pairs st family ss sound.1)
  where
    by : (b : Bool) → has_suffix family [] s ≡ b → (b && list_any (λ t. has_suffix family [] t && in_one_group st Summary family t s && same (quantile_at t) (quantile_at s)) ss) ≡ false
        → AllByRecursion (λ t. AreApartQuantiles st family t s) ss
    by false e k = all-of (λ t. AreApartQuantiles st family t s) (λ t f. absurd cc) ss
    by true e k =
        all-weaker (λ t. (has_suffix family [] t && in_one_group st Summary family t s && same (quantile_at t) (quantile_at s)) ≡ false) (λ t. AreApartQuantiles st family t s) (λ t g f. g) ss
        (any-none (λ t. has_suffix family [] t && in_one_group st Summary family t s && same (quantile_at t) (quantile_at s)) ss k)

module _ (st : Setting) (kind : Kind) (family unit : List ℕ) where
  parts_of : (labels : LabelSet) (ss : List Sample) → AllByRecursion (IsGoodSample st kind family) ss → AllByRecursion (IsPart st kind family labels) (filter (λ s. label_sets_eq (reading_labels st kind family s) labels) ss)
  parts_of labels [] h = tt
  parts_of labels (s ∷ ss) h = go (label_sets_eq (reading_labels st kind family s) labels) refl (parts_of labels ss h.1)
    where
      go : (b : Bool) → label_sets_eq (reading_labels st kind family s) labels ≡ b → AllByRecursion (IsPart st kind family labels) (filter (λ s. label_sets_eq (reading_labels st kind family s) labels) ss)
          → AllByRecursion (IsPart st kind family labels) (cond b (s ∷ filter (λ s. label_sets_eq (reading_labels st kind family s) labels) ss) (filter (λ s. label_sets_eq (reading_labels st kind family s) labels) ss))
      go true e ih = (record { formed = h.0.formed; named = h.0.named; valued = h.0.valued; placed = h.0.placed; of = (label_sets_decide (reading_labels st kind family s) labels).0 e }, ih)
      go false e ih = ih

  read_labels_of : (ss : List Sample) → AllByRecursion (IsFormedSample st.treatment) ss → AllByRecursion (IsReadLabels st kind) (map (reading_labels st kind family) ss)
  read_labels_of [] h = tt
  read_labels_of (s ∷ ss) h = (record { kept = kept_reading st kind family s h.0; free = no_place_in st kind family s }, read_labels_of ss h.1)

-- the quantiles of one reading have distinct places
places_of : (st : Setting) (family : List ℕ) (labels : LabelSet) (own : List Sample) → AllByRecursion (IsPart st Summary family labels) own → Pairs (AreApartQuantiles st family) own → Pairs (Placed st family labels) (filter (has_suffix family []) own)
places_of st family labels [] h p = tt
places_of st family labels (t ∷ own) h p = go (has_suffix family [] t) refl (places_of st family labels own h.1 p.1)
  where
    apart : (a b c : Bool) → (a && b && c) ≡ false → a ≡ true → b ≡ true → c ≡ false
    apart true true c e f g = e
    apart true false c e f g = absurd cc
    apart false b c e f g = absurd cc

    heads : has_suffix family [] t ≡ true → (ss : List Sample) → AllByRecursion (IsPart st Summary family labels) ss → AllByRecursion (AreApartQuantiles st family t) ss → AllByRecursion (Placed st family labels t) (filter (has_suffix family []) ss)
    heads e [] parts a = tt
    heads e (s ∷ ss) parts a = one (has_suffix family [] s) refl (heads e ss parts.1 a.1)
      where
        one : (b : Bool) → has_suffix family [] s ≡ b → AllByRecursion (Placed st family labels t) (filter (has_suffix family []) ss) → AllByRecursion (Placed st family labels t) (cond b (s ∷ filter (has_suffix family []) ss) (filter (has_suffix family []) ss))
        one false f ih = ih
        one true f ih = (
          apart (has_suffix family [] t) (in_one_group st Summary family t s) (same (quantile_at t) (quantile_at s)) (a.0 f) e
              ((label_sets_decide (sample_group st Summary family t) (sample_group st Summary family s)).1 (h.0.of ∙ sym parts.0.of)),
          ih,
        )

    go : (b : Bool) → has_suffix family [] t ≡ b → Pairs (Placed st family labels) (filter (has_suffix family []) own) → Pairs (Placed st family labels) (cond b (t ∷ filter (has_suffix family []) own) (filter (has_suffix family []) own))
    go false e ih = ih
    go true e ih = (heads e own h.1 p.0, ih)

-- ---- few labels on each line

module _ (st : Setting) (kind : Kind) (family : List ℕ) (labels : LabelSet) (room : length labels ≤ label_limit st.treatment) where
  abbrev HasFew : Sample → Type 0
  HasFew s = length s.labels ≤ label_limit st.treatment

  few_option : (name : List ℕ) (o : Option Number) → AllByRecursion HasFew (number_sample name labels o)
  few_option name None = tt
  few_option name (Some n) = (room, tt)

  few_totals : (buckets : List Bucket) (sum : Option Number) → AllByRecursion HasFew (total_samples kind family labels buckets sum)
  few_totals buckets None = tt
  few_totals buckets (Some n) = (room, (room, tt))

  few_buckets : (bs : List Bucket) → AllByRecursion (IsReadBucket st family labels) bs → AllByRecursion HasFew (map (bucket_sample family labels) bs)
  few_buckets [] h = tt
  few_buckets (b ∷ bs) h =
      let more = length-inserted (record { name = codes "le"; value = number_text b.le }) labels in
      let most = h.0.room in
      let here : length (with_number_label (codes "le") b.le labels) ≤ label_limit st.treatment = omega (arith, more, most) in
      (here, few_buckets bs h.1)

  few_quantiles : (qs : List Quantile) → AllByRecursion (IsReadQuantile st family labels) qs → AllByRecursion HasFew (map (quantile_sample family labels) qs)
  few_quantiles [] h = tt
  few_quantiles (q ∷ qs) h =
      let more = length-inserted (record { name = codes "quantile"; value = number_text (Finite q.at) }) labels in
      let most = h.0.room in
      let here : length (with_number_label (codes "quantile") (Finite q.at) labels) ≤ label_limit st.treatment = omega (arith, more, most) in
      (here, few_quantiles qs h.1)

  few_plain : (o : Option Number) (v : Value) → option_map values.Plain o ≡ Some v → AllByRecursion HasFew (value_samples kind family labels v)
  unfolding value_samples
  few_plain None v e = absurd cc
  few_plain (Some n) v e = subst (λ w. AllByRecursion HasFew (value_samples kind family labels w)) (same_Some (values.Plain n) v e) (room, tt)

  few_histogram : (own : List Sample) → is_histogram kind ≡ true → AllByRecursion (IsPart st kind family labels) own → (v : Value) → Some (values.Buckets (buckets_of family own) (sum_of family own)) ≡ Some v → AllByRecursion HasFew (value_samples kind family labels v)
  unfolding value_samples
  few_histogram own k h v e =
      subst (λ w. AllByRecursion HasFew (value_samples kind family labels w)) (same_Some (values.Buckets (buckets_of family own) (sum_of family own)) v e)
      (all-append HasFew (map (bucket_sample family labels) (buckets_of family own)) (total_samples kind family labels (buckets_of family own) (sum_of family own))
      (few_buckets (buckets_of family own) (read_buckets st family labels kind own k h)) (few_totals (buckets_of family own) (sum_of family own)))

few_summary : (st : Setting) (family : List ℕ) (labels : LabelSet) → length labels ≤ label_limit st.treatment → (own : List Sample) → AllByRecursion (IsPart st Summary family labels) own → (b : Bool) (v : Value)
    → cond b (Some (values.Quantiles (quantiles_of family own) (option_and_then whole (value_with family (codes "_count") own)) (sum_of family own))) None ≡ Some v
    → AllByRecursion (λ (s : Sample). length s.labels ≤ label_limit st.treatment) (value_samples Summary family labels v)
unfolding value_samples
few_summary st family labels room own h false v e = absurd cc
few_summary st family labels room own h true v e =
    let count : Option ℕ = option_and_then whole (value_with family (codes "_count") own) in
    subst (λ w. AllByRecursion (λ (s : Sample). length s.labels ≤ label_limit st.treatment) (value_samples Summary family labels w)) (same_Some (values.Quantiles (quantiles_of family own) count (sum_of family own)) v e)
    (all-append (λ (s : Sample). length s.labels ≤ label_limit st.treatment) (map (quantile_sample family labels) (quantiles_of family own)) _ (few_quantiles st Summary family labels room (quantiles_of family own) (read_quantiles st family labels own h))
    (all-append (λ (s : Sample). length s.labels ≤ label_limit st.treatment) (number_sample (family ++ codes "_count") labels (option_map number_of count)) _
    (few_option st Summary family labels room (family ++ codes "_count") (option_map number_of count)) (few_option st Summary family labels room (family ++ codes "_sum") (sum_of family own))))

few_value : (st : Setting) (kind : Kind) (family : List ℕ) (labels : LabelSet) → length labels ≤ label_limit st.treatment → (own : List Sample) → AllByRecursion (IsPart st kind family labels) own → (v : Value) → value_of st.format kind family own ≡ Some v
    → AllByRecursion (λ (s : Sample). length s.labels ≤ label_limit st.treatment) (value_samples kind family labels v)
unfolding value_of
few_value st Counter family labels room own h v e = few_plain st Counter family labels room (value_with family (counter_suffix st.format) own) v e
few_value st Gauge family labels room own h v e = few_plain st Gauge family labels room (value_with family [] own) v e
few_value st Unknown family labels room own h v e = few_plain st Unknown family labels room (value_with family [] own) v e
few_value st StateSet family labels room own h v e = few_plain st StateSet family labels room (value_with family [] own) v e
few_value st Info family labels room own h v e = few_plain st Info family labels room (value_with family (codes "_info") own) v e
few_value st Histogram family labels room own h v e = few_histogram st Histogram family labels room own refl h v e
few_value st GaugeHistogram family labels room own h v e = few_histogram st GaugeHistogram family labels room own refl h v e
few_value st Summary family labels room own h v e = few_summary st family labels room own h (list_any (is_measured family) own) v e

-- ---- readings

module _ (st : Setting) (kind : Kind) (family unit : List ℕ) (samples : List Sample) where
  made_labels : (labels : LabelSet) (r : Reading) → reading_of st kind family unit samples labels ≡ Some r → r.key.labels ≡ labels
  unfolding reading_of
  made_labels labels r e = go (value_of st.format kind family own) e
    where
      own : List Sample
      own = filter (λ s. label_sets_eq (reading_labels st kind family s) labels) samples

      made : Value → Reading
      made v = record { key = record { name = key_name st.format kind family; kind = kind; unit = unit; labels = labels }; value = v; created = value_with family (codes "_created") own; stamp = stamp_of st.format family own; exemplars = exemplars_of kind family own }

      go : (o : Option Value) → option_map made o ≡ Some r → r.key.labels ≡ labels
      go None f = absurd cc
      go (Some v) f = ap (λ (q : Reading). q.key.labels) (sym (same_Some (made v) r f))

  -- the label sets of readings are some of those of which they are made
  pub some_labels : (ls : List LabelSet) → AreSomeOf (λ a b. b ≡ a) ls (label_sets_of (filter_map (reading_of st kind family unit samples) ls))
  some_labels [] = tt
  some_labels (l ∷ ls) = go (reading_of st kind family unit samples l) refl (some_labels ls)
    where
      go : (o : Option Reading) → reading_of st kind family unit samples l ≡ o → AreSomeOf (λ a b. b ≡ a) ls (label_sets_of (filter_map (reading_of st kind family unit samples) ls))
          → AreSomeOf (λ a b. b ≡ a) (l ∷ ls) (label_sets_of (cons_option o (filter_map (reading_of st kind family unit samples) ls)))
      go None e ih = some_skipped (λ a b. b ≡ a) l ls _ ih
      go (Some r) e ih = inl (made_labels l r e, ih)

module _ (st : Setting) (kind : Kind) (family unit : List ℕ) (samples : List Sample) (good : AllByRecursion (IsGoodSample st kind family) samples) (places : kind ≡ Summary → Pairs (AreApartQuantiles st family) samples) where
  own_places : (labels : LabelSet) (own : List Sample) → AllByRecursion (IsPart st kind family labels) own → (kind ≡ Summary → Pairs (AreApartQuantiles st family) own) → kind ≡ Summary → Pairs (Placed st family labels) (filter (has_suffix family []) own)
  own_places labels own parts pairs e = places_of st family labels own (subst (λ k. AllByRecursion (IsPart st k family labels) own) e parts) (pairs e)

  formed_reading : (labels : LabelSet) → IsReadLabels st kind labels → (r : Reading) → reading_of st kind family unit samples labels ≡ Some r → IsValueOf kind r.value → IsFormedReading st.format st.treatment kind family unit r
  unfolding reading_of reading_samples
  formed_reading labels of r e k = go (value_of st.format kind family own) refl e
    where
      own : List Sample
      own = filter (λ s. label_sets_eq (reading_labels st kind family s) labels) samples

      made : Value → Reading
      made v = record { key = record { name = key_name st.format kind family; kind = kind; unit = unit; labels = labels }; value = v; created = value_with family (codes "_created") own; stamp = stamp_of st.format family own; exemplars = exemplars_of kind family own }

      go : (o : Option Value) → value_of st.format kind family own ≡ o → option_map made o ≡ Some r → IsFormedReading st.format st.treatment kind family unit r
      go None g f = absurd cc
      go (Some v) g f =
          let same_reading : made v ≡ r = same_Some (made v) r f in
          let parts = parts_of st kind family unit labels samples good in
          let pairs : kind ≡ Summary → Pairs (AreApartQuantiles st family) own = λ s. pairs_filter (AreApartQuantiles st family) (λ s. label_sets_eq (reading_labels st kind family s) labels) samples (places s) in
          let value : IsValueOf kind v = subst (λ (q : Reading). IsValueOf kind q.value) (sym same_reading) k in
          subst (IsFormedReading st.format st.treatment kind family unit) same_reading (record {
            key = refl;
            label_set = of.kept.set;
            labels = of.kept.text;
            own_labels = of.kept.own;
            few_labels = All-from_recursion (λ (s : Sample). length s.labels ≤ label_limit st.treatment) (reading_samples kind family (made v))
                (all-append (λ (s : Sample). length s.labels ≤ label_limit st.treatment) (value_samples kind family labels v) (number_sample (family ++ codes "_created") labels (value_with family (codes "_created") own))
                (few_value st kind family labels of.kept.few own parts v g) (few_option st kind family labels of.kept.few (family ++ codes "_created") (value_with family (codes "_created") own)));
            value = formed_value st family labels kind own parts of.free (own_places labels own parts pairs) v g value;
            created = formed_time st family labels kind own parts (value_with family (codes "_created") own) refl;
          })

  formed_readings : (ls : List LabelSet) → AllByRecursion (IsReadLabels st kind) ls → HaveValuesOf kind (filter_map (reading_of st kind family unit samples) ls)
      → AllByRecursion (IsFormedReading st.format st.treatment kind family unit) (filter_map (reading_of st kind family unit samples) ls)
  formed_readings [] h have = tt
  formed_readings (l ∷ ls) h have = go (reading_of st kind family unit samples l) refl have (formed_readings ls h.1)
    where
      go : (o : Option Reading) → reading_of st kind family unit samples l ≡ o → HaveValuesOf kind (cons_option o (filter_map (reading_of st kind family unit samples) ls))
          → (HaveValuesOf kind (filter_map (reading_of st kind family unit samples) ls) → AllByRecursion (IsFormedReading st.format st.treatment kind family unit) (filter_map (reading_of st kind family unit samples) ls))
          → AllByRecursion (IsFormedReading st.format st.treatment kind family unit) (cons_option o (filter_map (reading_of st kind family unit samples) ls))
      go None e v ih = ih v
      go (Some r) e v ih = (formed_reading l h.0 r e v.0, ih v.1)

-- the label sets of readings are groups, but those of states
group_itself : (st : Setting) (kind : Kind) (family : List ℕ) (ls : List LabelSet) → ((labels : LabelSet) → NoPlace kind labels → group_of kind family labels ≡ labels) → AllByRecursion (IsReadLabels st kind) ls → map (group_of kind family) ls ≡ ls
group_itself st kind family [] same h = refl
group_itself st kind family (l ∷ ls) same h = ap (λ x. x ∷ map (group_of kind family) ls) (same l h.0.free) ∙ ap (λ xs. l ∷ xs) (group_itself st kind family ls same h.1)

open_state : (f : Format) → is_kind_in f StateSet ≡ true → is_open_metrics f ≡ true
open_state Text e = absurd (let h : false ≡ true = e in cc)
open_state OpenMetrics e = refl

together : (st : Setting) (kind : Kind) (family : List ℕ) (ss : List Sample) (ls : List LabelSet) → is_kind_in st.format kind ≡ true → AreTogether st kind family ss → AllByRecursion (IsReadLabels st kind) ls → IsDistinct label_sets_eq ls
    → AreSomeOf (λ a b. b ≡ a) (first_of_each label_sets_eq (map (reading_labels st kind family) (reverse ss))) ls → stand_together (map (group_of kind family) ls) ≡ true
together st StateSet family ss ls in_format runs h d some =
    let all : List LabelSet = map (kept_labels st.treatment) (map (λ (s : Sample). s.labels) (reverse ss)) in
    let labels : List LabelSet = map (reading_labels st StateSet family) (reverse ss) in
    let firsts : List LabelSet = first_of_each label_sets_eq labels in
    let whole_list : stand_together (map (group_of StateSet family) labels) ≡ true =
    ap stand_together (map-map (group_of StateSet family) (reading_labels st StateSet family) (reverse ss)) ∙ samples_together st StateSet family (open_state st.format in_format) ss runs in
    some_together (map (group_of StateSet family) firsts) (map (group_of StateSet family) ls) (some_mapped (λ a b. b ≡ a) (group_of StateSet family) (λ a b e. ap (group_of StateSet family) e) firsts ls some)
    (some_together (map (group_of StateSet family) labels) (map (group_of StateSet family) firsts)
    (some_mapped (λ a b. b ≡ a) (group_of StateSet family) (λ a b e. ap (group_of StateSet family) e) labels firsts (firsts_some label_sets_eq labels)) whole_list)
together st Histogram family ss ls in_format runs h d some = ap stand_together (group_itself st Histogram family ls (λ l free. without_absent (codes "le") l free) h) ∙ distinct_together ls d
together st GaugeHistogram family ss ls in_format runs h d some = ap stand_together (group_itself st GaugeHistogram family ls (λ l free. without_absent (codes "le") l free) h) ∙ distinct_together ls d
together st Summary family ss ls in_format runs h d some = ap stand_together (group_itself st Summary family ls (λ l free. without_absent (codes "quantile") l free) h) ∙ distinct_together ls d
together st Counter family ss ls in_format runs h d some = ap stand_together (group_itself st Counter family ls (λ l free. refl) h) ∙ distinct_together ls d
together st Gauge family ss ls in_format runs h d some = ap stand_together (group_itself st Gauge family ls (λ l free. refl) h) ∙ distinct_together ls d
together st Info family ss ls in_format runs h d some = ap stand_together (group_itself st Info family ls (λ l free. refl) h) ∙ distinct_together ls d
together st Unknown family ss ls in_format runs h d some = ap stand_together (group_itself st Unknown family ls (λ l free. refl) h) ∙ distinct_together ls d

-- ---- families

-- the readings of a family are in form
record AreFormedReadings (f : Format) (t : Treatment) (kind : Kind) (family unit : List ℕ) (rs : List Reading) : Type 0 where
  each : AllByRecursion (IsFormedReading f t kind family unit) rs
  distinct : IsDistinct label_sets_eq (label_sets_of rs)
  stand : stand_together (map (group_of kind family) (label_sets_of rs)) ≡ true

family_readings : (st : Setting) (kind : Kind) (family unit : List ℕ) (ss : List Sample) → is_kind_in st.format kind ≡ true → AllByRecursion (IsFormedSample st.treatment) ss → AreSound st kind family ss → AreTogether st kind family ss
    → HaveValuesOf kind (readings_of st kind family unit (reverse ss)) → AreFormedReadings st.format st.treatment kind family unit (readings_of st kind family unit (reverse ss))
unfolding readings_of
family_readings st kind family unit ss in_format formed sound runs have =
    let samples : List Sample = reverse ss in
    let good : AllByRecursion (IsGoodSample st kind family) samples = all-reverse (IsGoodSample st kind family) ss (good_samples st kind family ss formed sound) in
    let places : kind ≡ Summary → Pairs (AreApartQuantiles st family) samples = λ e. pairs-reverse (AreApartQuantiles st family) ss (quantile_pairs st family ss (subst (λ k. AreSound st k family ss) e sound)) in
    let firsts : List LabelSet = first_of_each label_sets_eq (map (reading_labels st kind family) samples) in
    let labels : AllByRecursion (IsReadLabels st kind) firsts =
    some_all (IsReadLabels st kind) (map (reading_labels st kind family) samples) firsts (firsts_some label_sets_eq (map (reading_labels st kind family) samples))
    (read_labels_of st kind family unit samples (all-reverse (IsFormedSample st.treatment) ss formed)) in
    let left = some_labels st kind family unit samples firsts in
    let ls : List LabelSet = label_sets_of (filter_map (reading_of st kind family unit samples) firsts) in
    let distinct : IsDistinct label_sets_eq ls = some_distinct label_sets_eq firsts ls left (firsts_distinct label_sets_eq (map (reading_labels st kind family) samples)) in
    record {
      each = formed_readings st kind family unit samples good places firsts labels have;
      distinct = distinct;
      stand = together st kind family ss ls in_format runs (some_all (IsReadLabels st kind) firsts ls left labels) distinct left;
    }

formed_family : (st : Setting) (earlier : List Item) (clean : Bool) → AllByRecursion (IsFormedItem st.format st.treatment) earlier → AreFaultless st earlier → end_fault st earlier clean ≡ None
    → (family : List ℕ) → is_metric_name family ≡ true → IsFormedFamily st.format st.treatment (family_of st (reverse (owned_lines st.format earlier)) family)
unfolding family_of
formed_family st earlier clean formed free none family named =
    let above : List Owned = owned_lines st.format earlier in
    let lines : List Owned = reverse above in
    let owned : AllByRecursion (IsFormedOwned st.format st.treatment) above = formed_owned st.format st.treatment earlier formed in
    let turned : AllByRecursion (IsFormedOwned st.format st.treatment) lines = all-reverse (IsFormedOwned st.format st.treatment) above owned in
    let fit : AreFit st above = fit_lines st earlier free in
    let unit : List ℕ = unwrap_or (first_some (unit_in family) lines) [] in
    let kind_is : kind_of lines family ≡ kind_of above family = kind_of_page st earlier family free in
    let samples_are : samples_of lines family ≡ reverse (samples_of above family) = reversed_samples above family in
    let have : HaveValuesOf (kind_of lines family) (readings_of st (kind_of lines family) family unit (samples_of lines family)) = page_values st earlier clean free none family in
    let have_above : HaveValuesOf (kind_of above family) (readings_of st (kind_of above family) family unit (reverse (samples_of above family))) =
    subst (λ (l : List Sample). HaveValuesOf (kind_of above family) (readings_of st (kind_of above family) family unit l)) samples_are
    (subst (λ (k : Kind). HaveValuesOf k (readings_of st k family unit (samples_of lines family))) kind_is have) in
    let rs : AreFormedReadings st.format st.treatment (kind_of above family) family unit (readings_of st (kind_of above family) family unit (reverse (samples_of above family))) =
    family_readings st (kind_of above family) family unit (samples_of above family) (formed_kind st.format st.treatment family above owned) (sampled st.format st.treatment family above owned)
    (sound_samples st above family fit) (together_samples st above family fit) have_above in
    let readings : AreFormedReadings st.format st.treatment (kind_of lines family) family unit (readings_of st (kind_of lines family) family unit (samples_of lines family)) =
    subst (λ (k : Kind). AreFormedReadings st.format st.treatment k family unit (readings_of st k family unit (samples_of lines family))) (sym kind_is)
    (subst (λ (l : List Sample). AreFormedReadings st.format st.treatment (kind_of above family) family unit (readings_of st (kind_of above family) family unit l)) (sym samples_are) rs) in
    let allowed : (is_info_or_state_set (kind_of lines family) && is_unit unit) ≡ false = subst (λ (k : Kind). (is_info_or_state_set k && is_unit unit) ≡ false) (sym kind_is) (allowed_unit st.format st.treatment family st above fit) in
    record {
      name = named;
      kind = formed_kind st.format st.treatment family lines turned;
      help = formed_help st.format st.treatment family lines turned;
      unit = and_from (list_all is_metric_char unit && not (is_foreign_unit family unit)) (not (is_info_or_state_set (kind_of lines family) && is_unit unit))
          (and_from (list_all is_metric_char unit) (not (is_foreign_unit family unit)) (formed_unit st.format st.treatment family lines turned) (not_from_false _ (own_unit st.format st.treatment family st above fit))) (not_from_false _ allowed);
      unit_in_format = format_unit st.format st.treatment family lines turned;
      readings = All-from_recursion (IsFormedReading st.format st.treatment (kind_of lines family) family unit) (readings_of st (kind_of lines family) family unit (samples_of lines family)) readings.each;
      distinct = readings.distinct;
      together = readings.stand;
    }

-- ---- pages

formed_families : (st : Setting) (earlier : List Item) (clean : Bool) → AllByRecursion (IsFormedItem st.format st.treatment) earlier → AreFaultless st earlier → end_fault st earlier clean ≡ None
    → (names : List (List ℕ)) → AllByRecursion (λ name. is_metric_name name ≡ true) names → AllByRecursion (IsFormedFamily st.format st.treatment) (map (family_of st (reverse (owned_lines st.format earlier))) names)
formed_families st earlier clean formed free none [] h = tt
formed_families st earlier clean formed free none (name ∷ names) h = (formed_family st earlier clean formed free none name h.0, formed_families st earlier clean formed free none names h.1)

names_are : (st : Setting) (lines : List Owned) (names : List (List ℕ)) → map (λ (f : Family). f.name) (map (family_of st lines) names) ≡ names
unfolding family_of
names_are st lines [] = refl
names_are st lines (name ∷ names) = ap (λ l. name ∷ l) (names_are st lines names)

items_formed : (st : Setting) (earlier : List Item) (clean : Bool) → AllByRecursion (IsFormedItem st.format st.treatment) earlier → AreFaultless st earlier → end_fault st earlier clean ≡ None → AreFormed st.format st.treatment (page_of st earlier).families
unfolding page_of families_of
items_formed st earlier clean formed free none =
    let above : List Owned = owned_lines st.format earlier in
    let lines : List Owned = reverse above in
    let all_names : List (List ℕ) = map (λ (o : Owned). o.family) lines in
    let names : List (List ℕ) = first_of_each bytes_eq all_names in
    let turned : AllByRecursion (IsFormedOwned st.format st.treatment) lines = all-reverse (IsFormedOwned st.format st.treatment) above (formed_owned st.format st.treatment earlier formed) in
    let named : AllByRecursion (λ name. is_metric_name name ≡ true) names =
    some_all (λ name. is_metric_name name ≡ true) all_names names (firsts_some bytes_eq all_names)
    (all-map (λ name. is_metric_name name ≡ true) (λ (o : Owned). o.family) lines (all-weaker (IsFormedOwned st.format st.treatment) (λ (o : Owned). is_metric_name o.family ≡ true) (λ o h. h.0) lines turned)) in
    record {
      each = All-from_recursion (IsFormedFamily st.format st.treatment) (map (family_of st lines) names) (formed_families st earlier clean formed free none names named);
      names = subst (IsDistinct bytes_eq) (sym (names_are st lines names)) (firsts_distinct bytes_eq all_names);
    }

-- the page of a text has the form
pub page_formed : (st : Setting) (bytes : List ℕ) (page : Page) → IsPageOf st bytes page → AreFormed st.format st.treatment page.families
page_formed st bytes page is =
    let free = free_lines is.lines st [] 1 _ is.without_fault tt in
    let formed = formed_lines is.lines _ st [] 1 _ is.are_lines is.without_fault tt in
    subst (λ (p : Page). AreFormed st.format st.treatment p.families) (sym is.page_is) (items_formed st (items_of st.format is.lines) _ formed free.0 free.1)

pub read_pages : ReadPagesAreFormed
read_pages st page read =
    let whole = page_formed st read.text read.whole read.read in
    record {
      each = All-from_recursion (IsFormedFamily st.format st.treatment) page.families
          (thin_forms st.format st.treatment read.whole.families page.families read.families (recursion_from_All (IsFormedFamily st.format st.treatment) read.whole.families whole.each));
      names = thin_distinct bytes_eq (λ (f : Family). f.name) (λ f g h. h.name) read.whole.families page.families read.families whole.names;
    }

-- a page in OpenMetrics form can be written
pub open_forms_writable : OpenFormsAreWritable
open_forms_writable page form = record { formed = page_formed (open_setting treatments.Written form.limit) form.text page form.said; bare = form.bare; apart = form.apart; short_lines = form.short_lines }

-- and reads back as its families
pub open_forms_back : OpenFormsReadBack
unfolding written_text
open_forms_back page limit form few = reads_back page.families limit (open_forms_writable page form) few
