-- What each sample of a written reading is by itself: named as its kind allows, with a value and a threshold that it may have.
use Rattle.std.proofs.Common.{◌≡◌, ℕ, ◌^◌, ◌<◌, true, false, not, ◌&&◌, ◌||◌, List, [], ◌∷◌, ◌++◌, map, codes, Option, Some, None, refl, sym, ap, ◌∙◌, arith}
use Rattle.std.specs.Prelude.{option_map}
use Rattle.std.specs.List.{list_any, last_or, AllByRecursion, list_all}
use Rattle.std.specs.Option.{option_map_or}
use Rattle.std.specs.Str.{bytes_eq}
use Rattle.std.proofs.lemmas.Bool.{and_parts, and_left, and_right, or_from, or_right, not-true}
use Rattle.std.proofs.lemmas.Bool.Decides.{nat_tests}
use Rattle.std.proofs.lemmas.List.Elements.{recursion_from_All}
use Rattle.label_sets.specs.declared.kind.Kind.{Kind}
use Rattle.label_sets.specs.declared.kind.Kind.TheVariants.{Counter, Gauge, Histogram, GaugeHistogram, StateSet, Info, Summary, Unknown}
use Rattle.label_sets.specs.declared.label.Label.{Label}
use Rattle.label_sets.specs.declared.label_set.LabelSet.{LabelSet}
use Rattle.label_sets.specs.Names.{is_metric_name, is_metric_char}
use Rattle.label_sets.specs.Labels.{has_name}
use Rattle.label_sets.proofs.Laws.{all-append, all-weaker}
use Rattle.exact_decimal.specs.declared.number.Number.{Number}
use Rattle.exact_decimal.specs.declared.number.Number.TheVariants.{Finite}
use Rattle.exact_decimal.specs.Decimals.{IsNormal}
use Rattle.exact_decimal.specs.Numbers.{number_of, number_or_nan}
use Rattle.exact_decimal.specs.Order.{is_finite}
use Rattle.exact_decimal.specs.Literals.{number_text}
use Rattle.page_model.specs.declared.format.Format.TheVariants.{OpenMetrics}
use Rattle.page_model.specs.declared.format.Treatment.TheVariants as treatments
use Rattle.page_model.specs.declared.page.Bucket.{Bucket}
use Rattle.page_model.specs.declared.page.Quantile.{Quantile}
use Rattle.page_model.specs.declared.page.Value.{Value}
use Rattle.page_model.specs.declared.page.Reading.{Reading}
use Rattle.page_model.specs.declared.page.Value.TheVariants as values
use Rattle.page_model.specs.Suffixes.{suffixes}
use Rattle.page_model.specs.Rules.{has_suffix, is_bucket, is_count, is_bound, is_up, is_histogram, is_whole, quantile_at, has_bad_value, has_forbidden_value, has_bad_threshold}
use Rattle.page_model.specs.Readings.{key_name}
use Rattle.open_writing.specs.Writing.{bare_sample, number_sample, with_number_label, bucket_sample, quantile_sample, total_samples, observations, value_samples, reading_samples}
use Rattle.open_writing.specs.Forms.{IsFormedNumber, IsFormedOption, is_plain_value, is_taken_name, is_state, is_u64, is_u64_option, is_next_bucket, rise_to_infinity, IsFormedValue, IsFormedTime, IsFormedReading}
use Rattle.writing_laws.proofs.Spelled.{number_text_read}
use Rattle.writing_laws.proofs.PutLabels.{value_inserted, without_inserted, written_threshold, without_absent}
use Rattle.writing_laws.proofs.BucketRules.{whole_count}
use Rattle.writing_laws.proofs.ValuesBack.{suffix_is, no_suffix}
use Rattle.writing_laws.proofs.Turned.{all-map}
use Rattle.writing_laws.proofs.FairParts.{cond_true, cond_false, named_by, Base, NoPlace, IsFair, with_suffix, with_own_name, of_gauge, placed, counted}

module _ (limit : ℕ) (family : List ℕ) where
  -- ---- what a sample is not

  not_created : (suffix : List ℕ) (labels : LabelSet) (n : Number) → bytes_eq suffix (codes "_created") ≡ false
      → (has_suffix family (codes "_created") (bare_sample (family ++ suffix) labels n) && not (is_finite n)) ≡ false
  not_created suffix labels n e = and_left _ _ (suffix_is family suffix (codes "_created") labels n ∙ e)

  own_not_created : (labels : LabelSet) (n : Number) → (has_suffix family (codes "_created") (bare_sample family labels n) && not (is_finite n)) ≡ false
  own_not_created labels n = and_left _ _ (no_suffix family (codes "_created") labels n)

  no_count : (suffix : List ℕ) (labels : LabelSet) (n : Number) → bytes_eq suffix (codes "_count") ≡ false → bytes_eq suffix (codes "_gcount") ≡ false → is_count family (bare_sample (family ++ suffix) labels n) ≡ false
  no_count suffix labels n e f = or_from _ _ (suffix_is family suffix (codes "_count") labels n ∙ e) (suffix_is family suffix (codes "_gcount") labels n ∙ f)

  no_bucket : (suffix : List ℕ) (labels : LabelSet) (n : Number) → bytes_eq suffix (codes "_bucket") ≡ false → is_bucket family (bare_sample (family ++ suffix) labels n) ≡ false
  no_bucket suffix labels n e = suffix_is family suffix (codes "_bucket") labels n ∙ e

  -- a sample of a histogram that is neither bucket nor count
  no_measure : (suffix : List ℕ) (labels : LabelSet) (n : Number) → bytes_eq suffix (codes "_bucket") ≡ false → bytes_eq suffix (codes "_count") ≡ false → bytes_eq suffix (codes "_gcount") ≡ false
      → (is_bucket family (bare_sample (family ++ suffix) labels n) || is_count family (bare_sample (family ++ suffix) labels n)) ≡ false
  no_measure suffix labels n e f g = or_from _ _ (no_bucket suffix labels n e) (no_count suffix labels n f g)

  -- ---- created times

  fair_created : (kind : Kind) (labels : LabelSet) (created : Option Number) → Base family labels → NoPlace kind labels → IsFormedTime OpenMetrics kind created
      → AllByRecursion (IsFair limit kind family labels) (number_sample (family ++ codes "_created") labels created)
  unfolding has_bad_value has_forbidden_value has_bad_threshold
  fair_created kind labels None base free time = tt
  fair_created Counter labels (Some n) base free time = (
    with_suffix limit Counter family (codes "_created") labels labels n base time.2 refl refl
        (or_from _ _ (and_left _ _ (suffix_is family (codes "_created") (codes "_total") labels n)) (and_right _ _ (ap not time.1))) refl refl refl,
    tt,
  )
  fair_created Histogram labels (Some n) base free time = (
    with_suffix limit Histogram family (codes "_created") labels labels n base time.2 refl refl
        (or_from _ _ (and_left _ _ (no_measure (codes "_created") labels n refl refl refl)) (and_right _ _ (ap not time.1)))
        (cond_false _ _ _ (no_bucket (codes "_created") labels n refl) free) (without_absent (codes "le") labels free) refl,
    tt,
  )
  fair_created Summary labels (Some n) base free time = (
    with_suffix limit Summary family (codes "_created") labels labels n base time.2 refl refl
        (or_from _ _ (and_left _ _ (no_count (codes "_created") labels n refl refl)) (and_right _ _ (ap not time.1)))
        (cond_false _ _ _ (suffix_is family (codes "_created") [] labels n) free) (without_absent (codes "quantile") labels free) refl,
    tt,
  )
  fair_created _ labels (Some n) base free time = absurd (let h : false ≡ true = time.0 in cc)

  -- ---- readings of one sample

  fair_plain : (kind : Kind) (labels : LabelSet) (n : Number) → Base family labels → IsFormedNumber n → is_plain_value OpenMetrics treatments.Written kind family labels n ≡ true
      → IsFair limit kind family labels (bare_sample (key_name OpenMetrics kind family) labels n)
  unfolding is_plain_value is_taken_name has_bad_value has_forbidden_value has_bad_threshold
  fair_plain Counter labels n base formed events = with_suffix limit Counter family (codes "_total") labels labels n base formed refl refl
      (or_from _ _ (and_right _ _ (not-true _ events)) (not_created (codes "_total") labels n refl)) refl refl refl
  fair_plain Gauge labels n base formed h = with_own_name limit Gauge family labels labels n base formed refl (own_not_created labels n) refl refl refl
  fair_plain Unknown labels n base formed h = with_own_name limit Unknown family labels labels n base formed refl (own_not_created labels n) refl refl refl
  fair_plain Info labels n base formed one = with_suffix limit Info family (codes "_info") labels labels n base formed refl refl (or_from _ _ (ap not one) (not_created (codes "_info") labels n refl)) refl refl refl
  fair_plain StateSet labels n base formed h =
      let both = and_parts (is_state n) (has_name labels family) h in
      with_own_name limit StateSet family labels labels n base formed refl (or_from _ _ (or_from _ _ (ap not both.0) (ap not both.1)) (own_not_created labels n)) refl refl refl
  fair_plain _ labels n base formed h = absurd (let k : false ≡ true = h in cc)

  -- ---- histograms

  -- a bucket with a bound in its one form and a count below 2 ^ 64
  abbrev pub IsFairBucket : Bucket → Type 0
  IsFairBucket b = IsFormedNumber b.le × (is_bound b.le ≡ true) × (b.count < 2 ^ 64)

  bucket_of_histogram : (labels : LabelSet) → Base family labels → has_name labels (codes "le") ≡ false → (b : Bucket) → IsFairBucket b → IsFair limit Histogram family labels (bucket_sample family labels b)
  unfolding has_bad_value has_forbidden_value has_bad_threshold
  bucket_of_histogram labels base free b h =
      let own = with_number_label (codes "le") b.le labels in
      let left = without_inserted (record { name = codes "le"; value = number_text b.le }) labels free in
      with_suffix limit Histogram family (codes "_bucket") labels own (number_of b.count) (placed family (codes "le") labels b.le base refl h.0 free) (counted b.count h.2) refl refl
      (or_from _ _ (and_right _ _ (ap not (whole_count b.count h.2))) (not_created (codes "_bucket") own (number_of b.count) refl))
      (cond_true _ _ _ (suffix_is family (codes "_bucket") (codes "_bucket") own (number_of b.count)) (ap not (ap is_bound (written_threshold family labels b free h.0) ∙ h.1))) left
      (left ∙ sym (without_absent (codes "le") labels free))

  fair_bucket : (kind : Kind) (labels : LabelSet) → is_histogram kind ≡ true → Base family labels → has_name labels (codes "le") ≡ false → (b : Bucket) → IsFairBucket b → IsFair limit kind family labels (bucket_sample family labels b)
  fair_bucket Histogram labels is base free b h = bucket_of_histogram labels base free b h
  fair_bucket GaugeHistogram labels is base free b h = of_gauge limit family labels (bucket_sample family labels b) (named_by family (codes "_bucket") GaugeHistogram refl) (bucket_of_histogram labels base free b h)
  fair_bucket _ labels is base free b h = absurd (let no : false ≡ true = is in cc)

  fair_buckets : (kind : Kind) (labels : LabelSet) (bs : List Bucket) → is_histogram kind ≡ true → Base family labels → has_name labels (codes "le") ≡ false → AllByRecursion IsFairBucket bs
      → AllByRecursion (IsFair limit kind family labels) (map (bucket_sample family labels) bs)
  fair_buckets kind labels bs is base free h = all-map (IsFair limit kind family labels) (bucket_sample family labels) bs
      (all-weaker IsFairBucket (λ b. IsFair limit kind family labels (bucket_sample family labels b)) (fair_bucket kind labels is base free) bs h)

  -- a count or a sum of a histogram
  fair_total : (kind : Kind) (suffix : List ℕ) (labels : LabelSet) (n : Number) → is_histogram kind ≡ true → Base family labels → has_name labels (codes "le") ≡ false → IsFormedNumber n
      → list_any (bytes_eq suffix) (suffixes OpenMetrics kind) ≡ true → list_all is_metric_char suffix ≡ true → bytes_eq suffix (codes "_bucket") ≡ false → bytes_eq suffix (codes "_created") ≡ false
      → ((is_bucket family (bare_sample (family ++ suffix) labels n) || is_count family (bare_sample (family ++ suffix) labels n)) && not (is_whole n)) ≡ false
      → IsFair limit kind family labels (bare_sample (family ++ suffix) labels n)
  unfolding has_bad_value has_forbidden_value has_bad_threshold
  fair_total Histogram suffix labels n is base free formed named letters bucket created value = with_suffix limit Histogram family suffix labels labels n base formed named letters
      (or_from _ _ value (not_created suffix labels n created)) (cond_false _ _ _ (no_bucket suffix labels n bucket) free) (without_absent (codes "le") labels free) refl
  fair_total GaugeHistogram suffix labels n is base free formed named letters bucket created value = with_suffix limit GaugeHistogram family suffix labels labels n base formed named letters
      (or_from _ _ value (not_created suffix labels n created)) (cond_false _ _ _ (no_bucket suffix labels n bucket) free) (without_absent (codes "le") labels free) refl
  fair_total _ suffix labels n is base free formed named letters bucket created value = absurd (let no : false ≡ true = is in cc)

  -- both
  fair_totals : (kind : Kind) (labels : LabelSet) (bs : List Bucket) (sum : Option Number) → is_histogram kind ≡ true → Base family labels → has_name labels (codes "le") ≡ false → observations bs < 2 ^ 64 → IsFormedOption sum
      → AllByRecursion (IsFair limit kind family labels) (total_samples kind family labels bs sum)
  fair_totals kind labels bs None is base free small formed = tt
  fair_totals Histogram labels bs (Some n) is base free small formed = (
    fair_total Histogram (codes "_count") labels (number_of (observations bs)) refl base free (counted (observations bs) small) refl refl refl refl (and_right _ _ (ap not (whole_count (observations bs) small))),
    (fair_total Histogram (codes "_sum") labels n refl base free formed refl refl refl refl (and_left _ _ (no_measure (codes "_sum") labels n refl refl refl)), tt),
  )
  fair_totals GaugeHistogram labels bs (Some n) is base free small formed = (
    fair_total GaugeHistogram (codes "_gcount") labels (number_of (observations bs)) refl base free (counted (observations bs) small) refl refl refl refl (and_right _ _ (ap not (whole_count (observations bs) small))),
    (fair_total GaugeHistogram (codes "_gsum") labels n refl base free formed refl refl refl refl (and_left _ _ (no_measure (codes "_gsum") labels n refl refl refl)), tt),
  )
  fair_totals _ labels bs (Some n) is base free small formed = absurd (let no : false ≡ true = is in cc)

  -- ---- summaries

  -- the place that a written quantile reads as
  pub written_place : (labels : LabelSet) (q : Quantile) → has_name labels (codes "quantile") ≡ false → IsNormal q.at → quantile_at (quantile_sample family labels q) ≡ Finite q.at
  written_place labels q free normal =
      let l : Label = record { name = codes "quantile"; value = number_text (Finite q.at) } in
      rw (value_inserted l labels free) (ap number_or_nan (number_text_read (Finite q.at) normal))

  abbrev pub IsFairQuantile : Quantile → Type 0
  IsFairQuantile q = IsNormal q.at × IsFormedNumber q.value

  fair_quantile : (labels : LabelSet) → Base family labels → has_name labels (codes "quantile") ≡ false → (q : Quantile) → IsFairQuantile q → IsFair limit Summary family labels (quantile_sample family labels q)
  unfolding has_bad_value has_forbidden_value has_bad_threshold
  fair_quantile labels base free q h =
      let own = with_number_label (codes "quantile") (Finite q.at) labels in
      let left = without_inserted (record { name = codes "quantile"; value = number_text (Finite q.at) }) labels free in
      with_own_name limit Summary family labels own q.value (placed family (codes "quantile") labels (Finite q.at) base refl h.0 free) h.1 refl
      (or_from _ _ (and_left _ _ (or_from _ _ (no_suffix family (codes "_count") own q.value) (no_suffix family (codes "_gcount") own q.value))) (own_not_created own q.value))
      (cond_true _ _ _ (no_suffix family [] own q.value) (ap not (ap is_finite (written_place labels q free h.0)))) left
      (left ∙ sym (without_absent (codes "quantile") labels free))

  fair_quantiles : (labels : LabelSet) (qs : List Quantile) → Base family labels → has_name labels (codes "quantile") ≡ false → AllByRecursion IsFairQuantile qs → AllByRecursion (IsFair limit Summary family labels) (map (quantile_sample family labels) qs)
  fair_quantiles labels qs base free h = all-map (IsFair limit Summary family labels) (quantile_sample family labels) qs
      (all-weaker IsFairQuantile (λ q. IsFair limit Summary family labels (quantile_sample family labels q)) (fair_quantile labels base free) qs h)

  -- a summary's count, where there is one
  fair_count : (labels : LabelSet) (count : Option ℕ) → Base family labels → has_name labels (codes "quantile") ≡ false → is_u64_option count ≡ true
      → AllByRecursion (IsFair limit Summary family labels) (number_sample (family ++ codes "_count") labels (option_map number_of count))
  unfolding has_bad_value has_forbidden_value has_bad_threshold
  fair_count labels None base free h = tt
  fair_count labels (Some n) base free h =
      let small : n < 2 ^ 64 = grind (arith, nat_tests) in (
        with_suffix limit Summary family (codes "_count") labels labels (number_of n) base (counted n small) refl refl
            (or_from _ _ (and_right _ _ (ap not (whole_count n small))) (not_created (codes "_count") labels (number_of n) refl))
            (cond_false _ _ _ (suffix_is family (codes "_count") [] labels (number_of n)) free) (without_absent (codes "quantile") labels free) refl,
        tt,
      )

  -- and its sum
  fair_sum : (labels : LabelSet) (sum : Option Number) → Base family labels → has_name labels (codes "quantile") ≡ false → IsFormedOption sum
      → AllByRecursion (IsFair limit Summary family labels) (number_sample (family ++ codes "_sum") labels sum)
  unfolding has_bad_value has_forbidden_value has_bad_threshold
  fair_sum labels None base free h = tt
  fair_sum labels (Some n) base free h = (
    with_suffix limit Summary family (codes "_sum") labels labels n base h refl refl
        (or_from _ _ (and_left _ _ (no_count (codes "_sum") labels n refl refl)) (not_created (codes "_sum") labels n refl))
        (cond_false _ _ _ (suffix_is family (codes "_sum") [] labels n) free) (without_absent (codes "quantile") labels free) refl,
    tt,
  )

  -- ---- values

  up_bound : (n : Number) → is_up n ≡ true → is_bound n ≡ true
  up_bound n h = or_right (is_finite n) (is_up n) h

  small_count : (n : ℕ) → is_u64 n ≡ true → n < 2 ^ 64
  small_count n h = grind (arith, nat_tests)

  -- buckets that rise to plus infinity are fair
  pub fair_of : (bs : List Bucket) → rise_to_infinity bs ≡ true → AllByRecursion (λ (b : Bucket). IsFormedNumber b.le) bs → AllByRecursion IsFairBucket bs
  unfolding rise_to_infinity
  fair_of [] h f = tt
  fair_of (b ∷ []) h f =
      let both = and_parts (is_up b.le) (is_u64 b.count) h in
      ((f.0, up_bound b.le both.0, small_count b.count both.1), tt)
  fair_of (b ∷ c ∷ bs) h f =
      let rest = and_parts (is_bound b.le && is_u64 b.count && is_next_bucket b c) (rise_to_infinity (c ∷ bs)) h in
      let next = and_parts (is_bound b.le && is_u64 b.count) (is_next_bucket b c) rest.0 in
      let both = and_parts (is_bound b.le) (is_u64 b.count) next.0 in
      ((f.0, both.0, small_count b.count both.1), fair_of (c ∷ bs) rest.1 f.1)

  last_small : (bs : List Bucket) (last : Option Bucket) → AllByRecursion IsFairBucket bs → option_map_or (λ (b : Bucket). b.count) last 0 < 2 ^ 64 → option_map_or (λ (b : Bucket). b.count) (last_or last bs) 0 < 2 ^ 64
  last_small [] last h k = k
  last_small (b ∷ bs) last h k = last_small bs (Some b) h.1 h.0.2

  pub few_observations : (bs : List Bucket) → AllByRecursion IsFairBucket bs → observations bs < 2 ^ 64
  few_observations bs h = last_small bs None h (omega arith)

  pub no_place_of : (kind : Kind) (labels : LabelSet) (value : Value) → IsFormedValue OpenMetrics treatments.Written kind family labels value → NoPlace kind labels
  unfolding is_plain_value
  no_place_of Histogram labels (values.Plain n) h = absurd (let k : false ≡ true = h.1 in cc)
  no_place_of Histogram labels (values.Buckets bs sum) h = not-true _ h.4
  no_place_of Histogram labels (values.Quantiles qs count sum) h = absurd (let k : false ≡ true = h.0 in cc)
  no_place_of GaugeHistogram labels (values.Plain n) h = absurd (let k : false ≡ true = h.1 in cc)
  no_place_of GaugeHistogram labels (values.Buckets bs sum) h = not-true _ h.4
  no_place_of GaugeHistogram labels (values.Quantiles qs count sum) h = absurd (let k : false ≡ true = h.0 in cc)
  no_place_of Summary labels (values.Plain n) h = absurd (let k : false ≡ true = h.1 in cc)
  no_place_of Summary labels (values.Buckets bs sum) h = absurd (let k : false ≡ true = h.0 in cc)
  no_place_of Summary labels (values.Quantiles qs count sum) h = not-true _ h.6
  no_place_of _ labels value h = tt

  fair_values : (kind : Kind) (labels : LabelSet) (value : Value) → Base family labels → IsFormedValue OpenMetrics treatments.Written kind family labels value
      → AllByRecursion (IsFair limit kind family labels) (value_samples kind family labels value)
  unfolding value_samples
  fair_values kind labels (values.Plain n) base h = (fair_plain kind labels n base h.0 h.1, tt)
  fair_values kind labels (values.Buckets bs sum) base h =
      let free = not-true _ h.4 in
      let fair = fair_of bs h.1 (recursion_from_All (λ (b : Bucket). IsFormedNumber b.le) bs h.2) in
      all-append (IsFair limit kind family labels) (map (bucket_sample family labels) bs) (total_samples kind family labels bs sum)
      (fair_buckets kind labels bs h.0 base free fair) (fair_totals kind labels bs sum h.0 base free (few_observations bs fair) h.3)
  fair_values Summary labels (values.Quantiles qs count sum) base h =
      let free = not-true _ h.6 in
      all-append (IsFair limit Summary family labels) (map (quantile_sample family labels) qs) _
      (fair_quantiles labels qs base free (recursion_from_All IsFairQuantile qs h.2))
      (all-append (IsFair limit Summary family labels) (number_sample (family ++ codes "_count") labels (option_map number_of count)) (number_sample (family ++ codes "_sum") labels sum)
      (fair_count labels count base free h.4) (fair_sum labels sum base free h.3))
  fair_values _ labels (values.Quantiles qs count sum) base h = absurd (let k : false ≡ true = h.0 in cc)

  -- the samples of a reading
  pub fair_reading : (kind : Kind) (unit : List ℕ) (r : Reading) → is_metric_name family ≡ true → IsFormedReading OpenMetrics treatments.Written kind family unit r
      → AllByRecursion (IsFair limit kind family r.key.labels) (reading_samples kind family r)
  unfolding reading_samples
  fair_reading kind unit r name h =
      let base : Base family r.key.labels = record { name = name; set = h.label_set; text = h.labels } in
      all-append (IsFair limit kind family r.key.labels) (value_samples kind family r.key.labels r.value) (number_sample (family ++ codes "_created") r.key.labels r.created)
      (fair_values kind r.key.labels r.value base h.value)
      (fair_created kind r.key.labels r.created base (no_place_of kind r.key.labels r.value h.value) h.created)
