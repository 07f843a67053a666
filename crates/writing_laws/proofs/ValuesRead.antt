-- The value and the created time that the samples of any written reading say.
use Rattle.std.proofs.Common.{◌≡◌, ℕ, ◌^◌, ◌<◌, Bool, true, false, not, List, [], ◌∷◌, ◌++◌, map, filter, filter_map, codes, Option, Some, None, option_map, refl, ap, ◌∙◌, append_assoc, arith}
use Rattle.std.specs.Prelude.{option_and_then}
use Rattle.std.specs.List.{list_any, AllByRecursion, cons_option}
use Rattle.std.specs.Str.{bytes_eq}
use Rattle.std.proofs.lemmas.Bool.{not-true}
use Rattle.std.proofs.lemmas.Bool.Decides.{nat_tests}
use Rattle.std.proofs.lemmas.List.{append-nil}
use Rattle.std.proofs.lemmas.List.Elements.{recursion_from_All, filter-append}
use Rattle.label_sets.specs.declared.kind.Kind.{Kind}
use Rattle.label_sets.specs.declared.kind.Kind.TheVariants.{Counter, Gauge, Histogram, GaugeHistogram, StateSet, Info, Summary, Unknown}
use Rattle.label_sets.specs.declared.label_set.LabelSet.{LabelSet}
use Rattle.label_sets.specs.Labels.{has_name}
use Rattle.exact_decimal.specs.declared.number.Number.{Number}
use Rattle.exact_decimal.specs.declared.number.Number.TheVariants.{Finite}
use Rattle.exact_decimal.specs.Numbers.{number_of}
use Rattle.exact_decimal.specs.Order.{whole}
use Rattle.page_model.specs.declared.format.Format.TheVariants.{OpenMetrics}
use Rattle.page_model.specs.declared.format.Treatment.TheVariants as treatments
use Rattle.page_model.specs.declared.item.Sample.{Sample}
use Rattle.page_model.specs.declared.page.Bucket.{Bucket}
use Rattle.page_model.specs.declared.page.Quantile.{Quantile}
use Rattle.page_model.specs.declared.page.Value.{Value}
use Rattle.page_model.specs.declared.page.Value.TheVariants as values
use Rattle.page_model.specs.Rules.{has_suffix}
use Rattle.page_model.specs.Readings.{value_with, either_value, buckets_of, placed_quantile, quantile_of, quantiles_of, sum_of, is_measured, value_of}
use Rattle.open_writing.specs.Writing.{bare_sample, number_sample, with_number_label, bucket_sample, quantile_sample, total_samples, observations, value_samples}
use Rattle.open_writing.specs.Forms.{IsFormedNumber, is_plain_value, is_u64_option, is_some_summary, IsFormedValue, IsFormedTime}
use Rattle.writing_laws.proofs.Turned.{any-front}
use Rattle.exact_decimal.proofs.Laws.{whole_back}
use Rattle.writing_laws.proofs.ValuesBack.{suffix_is, no_suffix, Lacks, not_found, none_kept, lacks_append, behind_back, before_back, number_lacks, counter_back, buckets_lack, AreFormed, buckets_back, skip, histogram_back, either_none}
use Rattle.writing_laws.proofs.Fair.{IsFairBucket, IsFairQuantile, fair_of, written_place}

any_first : {A : Type 0} (p : A → Bool) (x : A) (xs : List A) → p x ≡ true → list_any p (x ∷ xs) ≡ true
any_first p x xs e = rw e refl

module _ (family : List ℕ) (labels : LabelSet) where
  -- ---- one sample

  own_value : (n : Number) → value_with family [] (bare_sample family labels n ∷ []) ≡ Some n
  unfolding value_with
  own_value n = rw (no_suffix family [] labels n) refl

  own_time : (n : Number) → value_with family (codes "_created") (bare_sample family labels n ∷ []) ≡ None
  unfolding value_with
  own_time n = rw (no_suffix family (codes "_created") labels n) refl

  info_time : (n : Number) → value_with family (codes "_created") (bare_sample (family ++ codes "_info") labels n ∷ []) ≡ None
  unfolding value_with
  info_time n = rw (suffix_is family (codes "_info") (codes "_created") labels n) refl

  -- ---- gauge histograms

  -- the samples of a gauge histogram's reading
  abbrev gauge_samples : List Bucket → Option Number → List Sample
  gauge_samples bs sum = map (bucket_sample family labels) bs ++ total_samples GaugeHistogram family labels bs sum

  gauge_totals_lack : (other : List ℕ) (bs : List Bucket) (sum : Option Number) → bytes_eq (codes "_gcount") other ≡ false → bytes_eq (codes "_gsum") other ≡ false → Lacks family other (total_samples GaugeHistogram family labels bs sum)
  gauge_totals_lack other bs None e f = tt
  gauge_totals_lack other bs (Some n) e f = (suffix_is family (codes "_gcount") other labels (number_of (observations bs)) ∙ e, (suffix_is family (codes "_gsum") other labels n ∙ f, tt))

  gauge_lacks : (other : List ℕ) (bs : List Bucket) (sum : Option Number) → bytes_eq (codes "_bucket") other ≡ false → bytes_eq (codes "_gcount") other ≡ false → bytes_eq (codes "_gsum") other ≡ false → Lacks family other (gauge_samples bs sum)
  gauge_lacks other bs sum e f g = lacks_append family other (map (bucket_sample family labels) bs) (total_samples GaugeHistogram family labels bs sum) (buckets_lack family other labels bs e) (gauge_totals_lack other bs sum f g)

  gauge_sum_found : (bs : List Bucket) (sum : Option Number) → value_with family (codes "_gsum") (total_samples GaugeHistogram family labels bs sum) ≡ sum
  unfolding value_with
  gauge_sum_found bs None = refl
  gauge_sum_found bs (Some n) =
      let count : has_suffix family (codes "_gsum") (bare_sample (family ++ codes "_gcount") labels (number_of (observations bs))) ≡ false = suffix_is family (codes "_gcount") (codes "_gsum") labels (number_of (observations bs)) in
      let sum : has_suffix family (codes "_gsum") (bare_sample (family ++ codes "_gsum") labels n) ≡ true = suffix_is family (codes "_gsum") (codes "_gsum") labels n in
      rw (count, sum) refl

  nothing_with : (suffix : List ℕ) (ss : List Sample) → Lacks family suffix ss → value_with family suffix ss ≡ None
  unfolding value_with
  nothing_with suffix ss h = ap (option_map (λ (s : Sample). s.value)) (not_found family suffix ss h)

  gauge_back : (bs : List Bucket) (sum : Option Number) → has_name labels (codes "le") ≡ false → AreFormed bs
      → (value_of OpenMetrics GaugeHistogram family (gauge_samples bs sum) ≡ Some (values.Buckets bs sum)) × (value_with family (codes "_created") (gauge_samples bs sum) ≡ None)
  unfolding value_of sum_of
  gauge_back bs sum free h =
      let front = map (bucket_sample family labels) bs in
      let totals = total_samples GaugeHistogram family labels bs sum in
      let no_sum = nothing_with (codes "_sum") (gauge_samples bs sum) (gauge_lacks (codes "_sum") bs sum refl refl refl) in
      let is_sum : value_with family (codes "_gsum") (gauge_samples bs sum) ≡ sum = skip family (codes "_gsum") front totals (buckets_lack family (codes "_gsum") labels bs refl) ∙ gauge_sum_found bs sum in
      let both : either_value (value_with family (codes "_sum") (gauge_samples bs sum)) (value_with family (codes "_gsum") (gauge_samples bs sum)) ≡ sum
      = ap (λ o. either_value o (value_with family (codes "_gsum") (gauge_samples bs sum))) no_sum ∙ is_sum in
      let buckets : buckets_of family (gauge_samples bs sum) ≡ bs = buckets_back family labels bs totals free h (gauge_totals_lack (codes "_bucket") bs sum refl refl) in (
        ap (λ cs. Some (values.Buckets cs (either_value (value_with family (codes "_sum") (gauge_samples bs sum)) (value_with family (codes "_gsum") (gauge_samples bs sum))))) buckets ∙ ap (λ o. Some (values.Buckets bs o)) both,
        nothing_with (codes "_created") (gauge_samples bs sum) (gauge_lacks (codes "_created") bs sum refl refl refl),
      )

  -- ---- summaries

  quantiles_lack : (other : List ℕ) (qs : List Quantile) → bytes_eq [] other ≡ false → Lacks family other (map (quantile_sample family labels) qs)
  quantiles_lack other [] e = tt
  quantiles_lack other (q ∷ qs) e = (no_suffix family other (with_number_label (codes "quantile") (Finite q.at) labels) q.value ∙ e, quantiles_lack other qs e)

  quantiles_kept : (limit : ℕ) (qs : List Quantile) → has_name labels (codes "quantile") ≡ false → AllByRecursion (IsFairQuantile limit family) qs
      → filter_map quantile_of (filter (has_suffix family []) (map (quantile_sample family labels) qs)) ≡ qs
  quantiles_kept limit [] free h = refl
  quantiles_kept limit (q ∷ qs) free h =
      let own : has_suffix family [] (quantile_sample family labels q) ≡ true = no_suffix family [] (with_number_label (codes "quantile") (Finite q.at) labels) q.value in
      let one : quantile_of (quantile_sample family labels q) ≡ Some q = ap (λ n. placed_quantile n q.value) (written_place limit family labels q free h.0.0) in
      let rest = filter_map quantile_of (filter (has_suffix family []) (map (quantile_sample family labels) qs)) in
      rw own (ap (λ o. cons_option o rest) one ∙ ap (λ ps. q ∷ ps) (quantiles_kept limit qs free h.1))

  -- the samples of a summary's reading behind its quantiles
  abbrev counted : Option ℕ → List Sample
  counted count = number_sample (family ++ codes "_count") labels (option_map number_of count)

  abbrev summed : Option Number → List Sample
  summed sum = number_sample (family ++ codes "_sum") labels sum

  abbrev made : Option Number → List Sample
  made created = number_sample (family ++ codes "_created") labels created

  -- all of them
  abbrev summary_samples : List Quantile → Option ℕ → Option Number → Option Number → List Sample
  summary_samples qs count sum created = (map (quantile_sample family labels) qs ++ (counted count ++ summed sum)) ++ made created

  rest_lacks : (other : List ℕ) (count : Option ℕ) (sum created : Option Number) → bytes_eq (codes "_count") other ≡ false → bytes_eq (codes "_sum") other ≡ false → bytes_eq (codes "_created") other ≡ false
      → Lacks family other ((counted count ++ summed sum) ++ made created)
  rest_lacks other count sum created e f g =
      lacks_append family other (counted count ++ summed sum) (made created)
      (lacks_append family other (counted count) (summed sum) (number_lacks family (codes "_count") other labels (option_map number_of count) e) (number_lacks family (codes "_sum") other labels sum f))
      (number_lacks family (codes "_created") other labels created g)

  measured : (qs : List Quantile) (count : Option ℕ) (sum : Option Number) → is_some_summary qs count sum ≡ true → list_any (is_measured family) (map (quantile_sample family labels) qs ++ (counted count ++ summed sum)) ≡ true
  measured (q ∷ qs) count sum h = any_first (is_measured family) (quantile_sample family labels q) _ (ap not (no_suffix family (codes "_created") (with_number_label (codes "quantile") (Finite q.at) labels) q.value))
  measured [] (Some n) sum h = any_first (is_measured family) (bare_sample (family ++ codes "_count") labels (number_of n)) (summed sum) (ap not (suffix_is family (codes "_count") (codes "_created") labels (number_of n)))
  measured [] None (Some n) h = any_first (is_measured family) (bare_sample (family ++ codes "_sum") labels n) [] (ap not (suffix_is family (codes "_sum") (codes "_created") labels n))
  measured [] None None h = absurd (let k : false ≡ true = h in cc)

  count_read : (count : Option ℕ) → is_u64_option count ≡ true → option_and_then whole (option_map number_of count) ≡ count
  count_read None h = refl
  count_read (Some n) h = let small : n < 2 ^ 64 = grind (arith, nat_tests) in whole_back n small

  summary_back : (limit : ℕ) (qs : List Quantile) (count : Option ℕ) (sum created : Option Number) → has_name labels (codes "quantile") ≡ false → AllByRecursion (IsFairQuantile limit family) qs → is_u64_option count ≡ true → is_some_summary qs count sum ≡ true
      → (value_of OpenMetrics Summary family (summary_samples qs count sum created) ≡ Some (values.Quantiles qs count sum)) × (value_with family (codes "_created") (summary_samples qs count sum created) ≡ created)
  unfolding value_of sum_of quantiles_of
  summary_back limit qs count sum created free fair small some =
      let front = map (quantile_sample family labels) qs in
      let all = summary_samples qs count sum created in
      let regrouped : all ≡ front ++ ((counted count ++ summed sum) ++ made created) = append_assoc front (counted count ++ summed sum) (made created) in
      let deeper : (counted count ++ summed sum) ++ made created ≡ counted count ++ (summed sum ++ made created) = append_assoc (counted count) (summed sum) (made created) in
      let said : list_any (is_measured family) all ≡ true = any-front (is_measured family) (front ++ (counted count ++ summed sum)) (made created) (measured qs count sum some) in
      let quantiles : filter_map quantile_of (filter (has_suffix family []) all) ≡ qs
      = ap (λ ss. filter_map quantile_of (filter (has_suffix family []) ss)) regrouped
      ∙ ap (filter_map quantile_of) (filter-append (has_suffix family []) front ((counted count ++ summed sum) ++ made created)
      ∙ ap (λ ts. filter (has_suffix family []) front ++ ts) (none_kept family [] ((counted count ++ summed sum) ++ made created) (rest_lacks [] count sum created refl refl refl)) ∙ append-nil (filter (has_suffix family []) front))
      ∙ quantiles_kept limit qs free fair in
      let count_found : value_with family (codes "_count") all ≡ option_map number_of count
      = ap (value_with family (codes "_count")) regrouped ∙ skip family (codes "_count") front ((counted count ++ summed sum) ++ made created) (quantiles_lack (codes "_count") qs refl)
      ∙ ap (value_with family (codes "_count")) deeper
      ∙ before_back family (codes "_count") labels (option_map number_of count) (summed sum ++ made created)
      (lacks_append family (codes "_count") (summed sum) (made created) (number_lacks family (codes "_sum") (codes "_count") labels sum refl) (number_lacks family (codes "_created") (codes "_count") labels created refl)) refl in
      let counts : option_and_then whole (value_with family (codes "_count") all) ≡ count = ap (option_and_then whole) count_found ∙ count_read count small in
      let sum_found : value_with family (codes "_sum") all ≡ sum
      = ap (value_with family (codes "_sum")) regrouped ∙ skip family (codes "_sum") front ((counted count ++ summed sum) ++ made created) (quantiles_lack (codes "_sum") qs refl)
      ∙ ap (value_with family (codes "_sum")) deeper ∙ skip family (codes "_sum") (counted count) (summed sum ++ made created) (number_lacks family (codes "_count") (codes "_sum") labels (option_map number_of count) refl)
      ∙ before_back family (codes "_sum") labels sum (made created) (number_lacks family (codes "_created") (codes "_sum") labels created refl) refl in
      let no_gauge : value_with family (codes "_gsum") all ≡ None
      = ap (value_with family (codes "_gsum")) regrouped ∙ nothing_with (codes "_gsum") (front ++ ((counted count ++ summed sum) ++ made created))
      (lacks_append family (codes "_gsum") front ((counted count ++ summed sum) ++ made created) (quantiles_lack (codes "_gsum") qs refl) (rest_lacks (codes "_gsum") count sum created refl refl refl)) in
      let sums : either_value (value_with family (codes "_sum") all) (value_with family (codes "_gsum") all) ≡ sum
      = ap (λ o. either_value o (value_with family (codes "_gsum") all)) sum_found ∙ ap (either_value sum) no_gauge ∙ either_none sum in (
        rw said (λ i. Some (values.Quantiles (quantiles i) (counts i) (sums i))),
        behind_back family (codes "_created") labels created (front ++ (counted count ++ summed sum))
            (lacks_append family (codes "_created") front (counted count ++ summed sum) (quantiles_lack (codes "_created") qs refl)
            (lacks_append family (codes "_created") (counted count) (summed sum) (number_lacks family (codes "_count") (codes "_created") labels (option_map number_of count) refl) (number_lacks family (codes "_sum") (codes "_created") labels sum refl))) refl,
      )

  -- ---- all kinds

  formed_buckets : (limit : ℕ) (bs : List Bucket) → AllByRecursion (IsFairBucket limit family) bs → AreFormed bs
  formed_buckets limit [] h = tt
  formed_buckets limit (b ∷ bs) h = ((h.0.0, h.0.2), formed_buckets limit bs h.1)

  -- what the samples of a reading say
  abbrev pub SaysBack : Kind → Value → Option Number → Type 0
  SaysBack kind value created =
      (value_of OpenMetrics kind family (value_samples kind family labels value ++ number_sample (family ++ codes "_created") labels created) ≡ Some value)
      × (value_with family (codes "_created") (value_samples kind family labels value ++ number_sample (family ++ codes "_created") labels created) ≡ created)

  pub value_back : (kind : Kind) (value : Value) (created : Option Number) → IsFormedValue OpenMetrics treatments.Written kind family labels value → IsFormedTime OpenMetrics kind created → SaysBack kind value created
  unfolding value_of value_samples is_plain_value
  value_back Counter (values.Plain n) created h time = counter_back family labels n created
  value_back Gauge (values.Plain n) None h time = (ap (option_map values.Plain) (own_value n), own_time n)
  value_back Unknown (values.Plain n) None h time = (ap (option_map values.Plain) (own_value n), own_time n)
  value_back StateSet (values.Plain n) None h time = (ap (option_map values.Plain) (own_value n), own_time n)
  value_back Info (values.Plain n) None h time = (ap (option_map values.Plain) (before_back family (codes "_info") labels (Some n) [] tt refl), info_time n)
  value_back Gauge (values.Plain n) (Some c) h time = absurd (let k : false ≡ true = time.0 in cc)
  value_back Unknown (values.Plain n) (Some c) h time = absurd (let k : false ≡ true = time.0 in cc)
  value_back StateSet (values.Plain n) (Some c) h time = absurd (let k : false ≡ true = time.0 in cc)
  value_back Info (values.Plain n) (Some c) h time = absurd (let k : false ≡ true = time.0 in cc)
  value_back Histogram (values.Plain n) created h time = absurd (let k : false ≡ true = h.1 in cc)
  value_back GaugeHistogram (values.Plain n) created h time = absurd (let k : false ≡ true = h.1 in cc)
  value_back Summary (values.Plain n) created h time = absurd (let k : false ≡ true = h.1 in cc)
  value_back Histogram (values.Buckets bs sum) created h time =
      histogram_back family labels bs sum created (not-true _ h.4) (formed_buckets 0 bs (fair_of 0 family bs h.1 (recursion_from_All (λ (b : Bucket). IsFormedNumber b.le) bs h.2)))
  value_back GaugeHistogram (values.Buckets bs sum) None h time =
      let said = gauge_back bs sum (not-true _ h.4) (formed_buckets 0 bs (fair_of 0 family bs h.1 (recursion_from_All (λ (b : Bucket). IsFormedNumber b.le) bs h.2))) in
      let same : gauge_samples bs sum ++ [] ≡ gauge_samples bs sum = append-nil (gauge_samples bs sum) in
      (ap (value_of OpenMetrics GaugeHistogram family) same ∙ said.0, ap (value_with family (codes "_created")) same ∙ said.1)
  value_back GaugeHistogram (values.Buckets bs sum) (Some c) h time = absurd (let k : false ≡ true = time.0 in cc)
  value_back Summary (values.Quantiles qs count sum) created h time =
      summary_back 0 qs count sum created (not-true _ h.6) (recursion_from_All (IsFairQuantile 0 family) qs h.2) h.4 h.5
  value_back Counter (values.Buckets bs sum) created h time = absurd (let k : false ≡ true = h.0 in cc)
  value_back Gauge (values.Buckets bs sum) created h time = absurd (let k : false ≡ true = h.0 in cc)
  value_back StateSet (values.Buckets bs sum) created h time = absurd (let k : false ≡ true = h.0 in cc)
  value_back Info (values.Buckets bs sum) created h time = absurd (let k : false ≡ true = h.0 in cc)
  value_back Summary (values.Buckets bs sum) created h time = absurd (let k : false ≡ true = h.0 in cc)
  value_back Unknown (values.Buckets bs sum) created h time = absurd (let k : false ≡ true = h.0 in cc)
  value_back Counter (values.Quantiles qs count sum) created h time = absurd (let k : false ≡ true = h.0 in cc)
  value_back Gauge (values.Quantiles qs count sum) created h time = absurd (let k : false ≡ true = h.0 in cc)
  value_back StateSet (values.Quantiles qs count sum) created h time = absurd (let k : false ≡ true = h.0 in cc)
  value_back Info (values.Quantiles qs count sum) created h time = absurd (let k : false ≡ true = h.0 in cc)
  value_back Histogram (values.Quantiles qs count sum) created h time = absurd (let k : false ≡ true = h.0 in cc)
  value_back GaugeHistogram (values.Quantiles qs count sum) created h time = absurd (let k : false ≡ true = h.0 in cc)
  value_back Unknown (values.Quantiles qs count sum) created h time = absurd (let k : false ≡ true = h.0 in cc)
