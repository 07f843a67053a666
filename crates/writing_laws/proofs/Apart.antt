-- The samples of a written family are apart: no two have one name and one label set, buckets rise, and quantiles have places of their own.
use Rattle.std.proofs.Common.{◌≡◌, ◌≢◌, ℕ, Bool, true, false, not, ◌&&◌, List, [], ◌∷◌, ◌++◌, map, filter, codes, Option, Some, None, refl, sym, ap, ◌∙◌, arith}
use Rattle.std.specs.Prelude.{⊤, nat_le, option_map}
use Rattle.std.specs.List.{list_any, flat_map, AllByRecursion, IsDistinct}
use Rattle.std.specs.Ordering.{is_lt, is_eq}
use Rattle.std.specs.declared.cmp.Ordering.{Ordering}
use Rattle.std.specs.declared.cmp.Ordering.TheVariants.{Less, Equal, Greater}
use Rattle.std.specs.Str.{bytes_eq}
use Rattle.std.proofs.lemmas.Bool.{and_parts, not-true, and_left, and_right}
use Rattle.label_sets.specs.Names.{is_metric_name}
use Rattle.page_model.proofs.Laws.{label_sets_decide}
use Rattle.std.proofs.lemmas.Bool.Decides.{nat_tests}
use Rattle.std.proofs.lemmas.List.{append-nil}
use Rattle.std.proofs.lemmas.List.Elements.{recursion_from_All}
use Rattle.label_sets.specs.declared.kind.Kind.{Kind}
use Rattle.label_sets.specs.declared.kind.Kind.TheVariants.{Counter, Gauge, Histogram, GaugeHistogram, StateSet, Info, Summary, Unknown}
use Rattle.label_sets.specs.declared.label_set.LabelSet.{LabelSet}
use Rattle.label_sets.specs.Labels.{has_name, label_sets_eq, without_label}
use Rattle.label_sets.proofs.Laws.{all-append, all-weaker}
use Rattle.exact_decimal.specs.declared.number.Number.{Number}
use Rattle.exact_decimal.specs.declared.number.Number.TheVariants.{Finite}
use Rattle.exact_decimal.specs.Decimals.{decimal_cmp}
use Rattle.exact_decimal.specs.Numbers.{number_of}
use Rattle.exact_decimal.specs.Order.{less, same}
use Rattle.exact_decimal.proofs.Laws.{same_itself, less_trans}
use Rattle.page_model.specs.declared.format.Format.TheVariants.{OpenMetrics}
use Rattle.page_model.specs.declared.format.Treatment.TheVariants as treatments
use Rattle.page_model.specs.declared.item.Sample.{Sample}
use Rattle.page_model.specs.declared.page.Bucket.{Bucket}
use Rattle.page_model.specs.declared.page.Quantile.{Quantile}
use Rattle.page_model.specs.declared.page.Value.{Value}
use Rattle.page_model.specs.declared.page.Value.TheVariants as values
use Rattle.page_model.specs.declared.page.Reading.{Reading}
use Rattle.page_model.specs.Written.{Setting, open_setting}
use Rattle.page_model.specs.Rules.{is_histogram, is_bound, has_suffix, is_bucket, is_same_series, in_one_group, sample_group, threshold, quantile_at, follows_bucket, breaks_bucket_order, buckets_of_group, is_out_of_order}
use Rattle.page_model.specs.Readings.{key_name, reading_labels}
use Rattle.open_writing.specs.Writing.{bare_sample, number_sample, with_number_label, bucket_sample, quantile_sample, count_suffix, sum_suffix, total_samples, observations, value_samples, reading_samples}
use Rattle.open_writing.specs.Forms.{IsFormedNumber, is_plain_value, is_u64, is_next_bucket, rise_to_infinity, is_one_place, IsFormedValue, IsFormedTime, IsFormedReading, label_sets_of}
use Rattle.writing_laws.proofs.Turned.{all-map, all-of, none-any, Pairs, pairs-append, pairs-map, pairs-weaker, pairs-flat}
use Rattle.writing_laws.proofs.PutLabels.{other_group, written_threshold}
use Rattle.writing_laws.proofs.BucketRules.{follows}
use Rattle.writing_laws.proofs.ValuesBack.{suffix_is}
use Rattle.writing_laws.proofs.FairParts.{name_test, IsFair}
use Rattle.writing_laws.proofs.Fair.{IsFairBucket, IsFairQuantile, fair_of, fair_reading, written_place}

-- ---- numbers

not_less : (o : Ordering) → is_eq o ≡ true → is_lt o ≡ false
not_less Less e = absurd cc
not_less Equal e = refl
not_less Greater e = refl

-- no number is less than itself
not_itself : (n : Number) → less n n ≡ false
unfolding less same
not_itself (Finite d) = not_less (decimal_cmp d d) (same_itself d)
not_itself _ = refl

le_more : (a b c : ℕ) → nat_le a b ≡ true → nat_le b c ≡ true → nat_le a c ≡ true
le_more a b c e f = grind (arith, nat_tests)

module _ (limit : ℕ) (family : List ℕ) where
  -- how the page is read
  abbrev pub st : Setting
  st = open_setting treatments.Written limit

  -- ---- what is asked of two samples, the first of which stands in front

  -- they differ in name or labels
  abbrev pub Differ : Sample → Sample → Type 0
  Differ t s = is_same_series st s t ≡ false

  -- buckets of one group rise, and quantiles of one group have other places
  abbrev pub OrderOf : Kind → Sample → Sample → Type 0
  OrderOf Histogram t s = (is_bucket family t && in_one_group st Histogram family t s) ≡ true → is_bucket family s ≡ true → follows_bucket t s ≡ true
  OrderOf GaugeHistogram t s = (is_bucket family t && in_one_group st GaugeHistogram family t s) ≡ true → is_bucket family s ≡ true → follows_bucket t s ≡ true
  OrderOf Summary t s = has_suffix family [] s ≡ true → (has_suffix family [] t && in_one_group st Summary family t s && same (quantile_at t) (quantile_at s)) ≡ false
  OrderOf _ t s = ⊤

  -- both
  abbrev pub IsApart : Kind → Sample → Sample → Type 0
  IsApart kind t s = Differ t s × OrderOf kind t s

  -- a sample that is neither bucket nor quantile
  abbrev IsUnplaced : Kind → Sample → Type 0
  IsUnplaced Histogram s = is_bucket family s ≡ false
  IsUnplaced GaugeHistogram s = is_bucket family s ≡ false
  IsUnplaced Summary s = has_suffix family [] s ≡ false
  IsUnplaced _ s = ⊤

  order_free : (kind : Kind) (t s : Sample) → IsUnplaced kind s → OrderOf kind t s
  order_free Histogram t s un = λ both bucket. absurd (let k : false ≡ true = sym un ∙ bucket in cc)
  order_free GaugeHistogram t s un = λ both bucket. absurd (let k : false ≡ true = sym un ∙ bucket in cc)
  order_free Summary t s un = λ own. absurd (let k : false ≡ true = sym un ∙ own in cc)
  order_free _ t s un = tt

  unplaced_by : (kind : Kind) (b : List ℕ) (labels : LabelSet) (n : Number) → bytes_eq b (codes "_bucket") ≡ false → bytes_eq b [] ≡ false → IsUnplaced kind (bare_sample (family ++ b) labels n)
  unplaced_by Histogram b labels n e f = suffix_is family b (codes "_bucket") labels n ∙ e
  unplaced_by GaugeHistogram b labels n e f = suffix_is family b (codes "_bucket") labels n ∙ e
  unplaced_by Summary b labels n e f = suffix_is family b [] labels n ∙ f
  unplaced_by _ b labels n e f = tt

  -- ---- samples that differ by their names

  -- the name does not end in this suffix
  abbrev NotNamed : List ℕ → Sample → Type 0
  NotNamed b x = bytes_eq x.name (family ++ b) ≡ false

  option_not : (a b : List ℕ) (labels : LabelSet) (o : Option Number) → bytes_eq a b ≡ false → AllByRecursion (NotNamed b) (number_sample (family ++ a) labels o)
  option_not a b labels None e = tt
  option_not a b labels (Some n) e = (name_test family a b ∙ e, tt)

  totals_not : (kind : Kind) (b : List ℕ) (labels : LabelSet) (bs : List Bucket) (sum : Option Number) → bytes_eq (count_suffix kind) b ≡ false → bytes_eq (sum_suffix kind) b ≡ false
      → AllByRecursion (NotNamed b) (total_samples kind family labels bs sum)
  totals_not kind b labels bs None e f = tt
  totals_not kind b labels bs (Some n) e f = (name_test family (count_suffix kind) b ∙ e, (name_test family (sum_suffix kind) b ∙ f, tt))

  buckets_not : (b : List ℕ) (labels : LabelSet) (bs : List Bucket) → bytes_eq (codes "_bucket") b ≡ false → AllByRecursion (NotNamed b) (map (bucket_sample family labels) bs)
  buckets_not b labels bs e = all-map (NotNamed b) (bucket_sample family labels) bs (all-of _ (λ (c : Bucket). name_test family (codes "_bucket") b ∙ e) bs)

  quantiles_not : (b : List ℕ) (labels : LabelSet) (qs : List Quantile) → bytes_eq [] b ≡ false → AllByRecursion (NotNamed b) (map (quantile_sample family labels) qs)
  quantiles_not b labels qs e = all-map (NotNamed b) (quantile_sample family labels) qs (all-of _ (λ (q : Quantile). ap (λ t. bytes_eq t (family ++ b)) (sym (append-nil family)) ∙ name_test family [] b ∙ e) qs)

  to_one : (kind : Kind) (xs : List Sample) (b : List ℕ) (labels : LabelSet) (n : Number) → bytes_eq b (codes "_bucket") ≡ false → bytes_eq b [] ≡ false → AllByRecursion (NotNamed b) xs
      → AllByRecursion (λ x. IsApart kind x (bare_sample (family ++ b) labels n)) xs
  to_one kind xs b labels n e f h =
      all-weaker (NotNamed b) (λ x. IsApart kind x (bare_sample (family ++ b) labels n)) (λ x g. (and_left _ _ g, order_free kind x (bare_sample (family ++ b) labels n) (unplaced_by kind b labels n e f))) xs h

  to_option : (kind : Kind) (xs : List Sample) (b : List ℕ) (labels : LabelSet) (o : Option Number) → bytes_eq b (codes "_bucket") ≡ false → bytes_eq b [] ≡ false → AllByRecursion (NotNamed b) xs
      → AllByRecursion (λ x. AllByRecursion (IsApart kind x) (number_sample (family ++ b) labels o)) xs
  to_option kind xs b labels None e f h = all-of _ (λ x. tt) xs
  to_option kind xs b labels (Some n) e f h = all-weaker _ (λ x. AllByRecursion (IsApart kind x) (bare_sample (family ++ b) labels n ∷ [])) (λ x a. (a, tt)) xs (to_one kind xs b labels n e f h)

  to_two : (kind : Kind) (s t : Sample) (xs : List Sample) → AllByRecursion (λ x. IsApart kind x s) xs → AllByRecursion (λ x. IsApart kind x t) xs → AllByRecursion (λ x. AllByRecursion (IsApart kind x) (s ∷ t ∷ [])) xs
  to_two kind s t [] h k = tt
  to_two kind s t (x ∷ xs) h k = ((h.0, (k.0, tt)), to_two kind s t xs h.1 k.1)

  option_apart : (kind : Kind) (name : List ℕ) (labels : LabelSet) (o : Option Number) → Pairs (IsApart kind) (number_sample name labels o)
  option_apart kind name labels None = tt
  option_apart kind name labels (Some n) = (tt, tt)

  -- ---- buckets

  -- both are fair, the second has a greater bound and no smaller count
  record Rise (b c : Bucket) : Type 0 where
    first : IsFairBucket limit family b
    second : IsFairBucket limit family c
    bound : less b.le c.le ≡ true
    count : nat_le b.count c.count ≡ true

  rising : (bs : List Bucket) → rise_to_infinity bs ≡ true → AllByRecursion (λ (b : Bucket). IsFormedNumber b.le) bs → Pairs Rise bs
  unfolding rise_to_infinity
  rising [] h f = tt
  rising (b ∷ []) h f = (tt, tt)
  rising (b ∷ c ∷ bs) h f =
      let fair = fair_of limit family (b ∷ c ∷ bs) h f in
      let rest = and_parts (is_bound b.le && is_u64 b.count && is_next_bucket b c) (rise_to_infinity (c ∷ bs)) h in
      let next = and_parts (is_bound b.le && is_u64 b.count) (is_next_bucket b c) rest.0 in
      let both = and_parts (less b.le c.le) (nat_le b.count c.count) next.1 in
      let ih = rising (c ∷ bs) rest.1 f.1 in
      let here : Rise b c = record { first = fair.0; second = fair.1.0; bound = both.0; count = both.1 } in
      ((here, all-weaker (Rise c) (Rise b) (λ d r. record { first = fair.0; second = r.second; bound = less_trans b.le c.le d.le both.0 r.bound; count = le_more b.count c.count d.count both.1 r.count }) bs ih.0), ih)

  bucket_differs : (labels : LabelSet) (b c : Bucket) → has_name labels (codes "le") ≡ false → Rise b c → Differ (bucket_sample family labels b) (bucket_sample family labels c)
  bucket_differs labels b c free r =
      and_right _ _ (other_group (with_number_label (codes "le") b.le labels) (with_number_label (codes "le") c.le labels) (λ e.
      let read : threshold (bucket_sample family labels b) ≡ threshold (bucket_sample family labels c) = ap (λ ls. threshold (bare_sample family ls (number_of 0))) e in
      let one : b.le ≡ c.le = sym (written_threshold family labels b free r.first.0) ∙ read ∙ written_threshold family labels c free r.second.0 in
      absurd (let k : false ≡ true = sym (not_itself b.le) ∙ ap (less b.le) one ∙ r.bound in cc)))

  bucket_follows : (labels : LabelSet) (b c : Bucket) → has_name labels (codes "le") ≡ false → Rise b c → follows_bucket (bucket_sample family labels b) (bucket_sample family labels c) ≡ true
  bucket_follows labels b c free r = follows family labels b c free r.first.0 r.second.0 r.first.2 r.second.2 (rw (r.bound, r.count) refl)

  bucket_pairs : (kind : Kind) (labels : LabelSet) (bs : List Bucket) → is_histogram kind ≡ true → has_name labels (codes "le") ≡ false → Pairs Rise bs → Pairs (IsApart kind) (map (bucket_sample family labels) bs)
  bucket_pairs Histogram labels bs h free rise = pairs-map (IsApart Histogram) (bucket_sample family labels) bs
      (pairs-weaker Rise (λ b c. IsApart Histogram (bucket_sample family labels b) (bucket_sample family labels c)) (λ b c r. (bucket_differs labels b c free r, λ both bucket. bucket_follows labels b c free r)) bs rise)
  bucket_pairs GaugeHistogram labels bs h free rise = pairs-map (IsApart GaugeHistogram) (bucket_sample family labels) bs
      (pairs-weaker Rise (λ b c. IsApart GaugeHistogram (bucket_sample family labels b) (bucket_sample family labels c)) (λ b c r. (bucket_differs labels b c free r, λ both bucket. bucket_follows labels b c free r)) bs rise)
  bucket_pairs _ labels bs h free rise = absurd (let k : false ≡ true = h in cc)

  -- a histogram's suffixes differ from each other and from those of buckets
  pub record HasTotals (kind : Kind) : Type 0 where
    pub count_bucket : bytes_eq (count_suffix kind) (codes "_bucket") ≡ false
    pub count_own : bytes_eq (count_suffix kind) [] ≡ false
    pub sum_bucket : bytes_eq (sum_suffix kind) (codes "_bucket") ≡ false
    pub sum_own : bytes_eq (sum_suffix kind) [] ≡ false
    pub bucket_count : bytes_eq (codes "_bucket") (count_suffix kind) ≡ false
    pub bucket_sum : bytes_eq (codes "_bucket") (sum_suffix kind) ≡ false
    pub count_sum : bytes_eq (count_suffix kind) (sum_suffix kind) ≡ false
    pub count_created : bytes_eq (count_suffix kind) (codes "_created") ≡ false
    pub sum_created : bytes_eq (sum_suffix kind) (codes "_created") ≡ false

  total_pairs : (kind : Kind) (labels : LabelSet) (bs : List Bucket) (sum : Option Number) → HasTotals kind → Pairs (IsApart kind) (total_samples kind family labels bs sum)
  total_pairs kind labels bs None w = tt
  total_pairs kind labels bs (Some n) w =
      (((and_left _ _ (name_test family (count_suffix kind) (sum_suffix kind) ∙ w.count_sum), order_free kind _ (bare_sample (family ++ sum_suffix kind) labels n) (unplaced_by kind (sum_suffix kind) labels n w.sum_bucket w.sum_own)), tt), (tt, tt))

  to_totals : (kind : Kind) (xs : List Sample) (labels : LabelSet) (bs : List Bucket) (sum : Option Number) → HasTotals kind → AllByRecursion (NotNamed (count_suffix kind)) xs → AllByRecursion (NotNamed (sum_suffix kind)) xs
      → AllByRecursion (λ x. AllByRecursion (IsApart kind x) (total_samples kind family labels bs sum)) xs
  to_totals kind xs labels bs None w h k = all-of _ (λ x. tt) xs
  to_totals kind xs labels bs (Some n) w h k =
      let count = number_of (observations bs) in
      to_two kind (bare_sample (family ++ count_suffix kind) labels count) (bare_sample (family ++ sum_suffix kind) labels n) xs
      (to_one kind xs (count_suffix kind) labels count w.count_bucket w.count_own h) (to_one kind xs (sum_suffix kind) labels n w.sum_bucket w.sum_own k)

  histogram_pairs : (kind : Kind) (labels : LabelSet) (bs : List Bucket) (sum created : Option Number) → is_histogram kind ≡ true → HasTotals kind → has_name labels (codes "le") ≡ false → Pairs Rise bs
      → Pairs (IsApart kind) ((map (bucket_sample family labels) bs ++ total_samples kind family labels bs sum) ++ number_sample (family ++ codes "_created") labels created)
  histogram_pairs kind labels bs sum created h w free rise =
      let front = map (bucket_sample family labels) bs in
      let totals = total_samples kind family labels bs sum in
      let end = number_sample (family ++ codes "_created") labels created in
      pairs-append (IsApart kind) (front ++ totals) end
      (pairs-append (IsApart kind) front totals (bucket_pairs kind labels bs h free rise) (total_pairs kind labels bs sum w)
      (to_totals kind front labels bs sum w (buckets_not (count_suffix kind) labels bs w.bucket_count) (buckets_not (sum_suffix kind) labels bs w.bucket_sum)))
      (option_apart kind (family ++ codes "_created") labels created)
      (to_option kind (front ++ totals) (codes "_created") labels created refl refl
      (all-append (NotNamed (codes "_created")) front totals (buckets_not (codes "_created") labels bs refl) (totals_not kind (codes "_created") labels bs sum w.count_created w.sum_created)))

  pub totals_of : HasTotals Histogram
  totals_of = record { count_bucket = refl; count_own = refl; sum_bucket = refl; sum_own = refl; bucket_count = refl; bucket_sum = refl; count_sum = refl; count_created = refl; sum_created = refl }

  pub gauge_totals_of : HasTotals GaugeHistogram
  gauge_totals_of = record { count_bucket = refl; count_own = refl; sum_bucket = refl; sum_own = refl; bucket_count = refl; bucket_sum = refl; count_sum = refl; count_created = refl; sum_created = refl }

  -- ---- quantiles

  quantile_pairs : (labels : LabelSet) (qs : List Quantile) → has_name labels (codes "quantile") ≡ false → AllByRecursion (IsFairQuantile limit family) qs → IsDistinct is_one_place qs → Pairs (IsApart Summary) (map (quantile_sample family labels) qs)
  unfolding IsDistinct
  quantile_pairs labels [] free h d = tt
  quantile_pairs labels (q ∷ qs) free h d = (firsts qs h.1 d.0, quantile_pairs labels qs free h.1 d.1)
    where
      two : (p : Quantile) → IsFairQuantile limit family p → is_one_place q p ≡ false → IsApart Summary (quantile_sample family labels q) (quantile_sample family labels p)
      two p f e =
          let first = written_place limit family labels q free h.0.0 in
          let second = written_place limit family labels p free f.0 in (
            and_right _ _ (other_group (with_number_label (codes "quantile") (Finite q.at) labels) (with_number_label (codes "quantile") (Finite p.at) labels) (λ k.
                let read : quantile_at (quantile_sample family labels q) ≡ quantile_at (quantile_sample family labels p) = ap (λ ls. quantile_at (bare_sample family ls (number_of 0))) k in
                let one : Finite q.at ≡ Finite p.at = sym first ∙ read ∙ second in
                absurd (let g : false ≡ true = sym e ∙ ap (same (Finite q.at)) (sym one) ∙ same_itself q.at in cc))),
            λ own.
                let t = quantile_sample family labels q in
                let s = quantile_sample family labels p in
                let other : same (quantile_at t) (quantile_at s) ≡ false = rw (first, second) e in
                and_right (has_suffix family [] t && in_one_group st Summary family t s) (same (quantile_at t) (quantile_at s)) other,
          )

      firsts : (ps : List Quantile) → AllByRecursion (IsFairQuantile limit family) ps → AllByRecursion (λ p. is_one_place q p ≡ false) ps → AllByRecursion (IsApart Summary (quantile_sample family labels q)) (map (quantile_sample family labels) ps)
      firsts [] f e = tt
      firsts (p ∷ ps) f e = (two p f.0 e.0, firsts ps f.1 e.1)

  summary_pairs : (labels : LabelSet) (qs : List Quantile) (count : Option ℕ) (sum created : Option Number) → has_name labels (codes "quantile") ≡ false → AllByRecursion (IsFairQuantile limit family) qs → IsDistinct is_one_place qs
      → Pairs (IsApart Summary) ((map (quantile_sample family labels) qs ++ (number_sample (family ++ codes "_count") labels (option_map number_of count) ++ number_sample (family ++ codes "_sum") labels sum)) ++ number_sample (family ++ codes "_created") labels created)
  summary_pairs labels qs count sum created free fair distinct =
      let front = map (quantile_sample family labels) qs in
      let counts = number_sample (family ++ codes "_count") labels (option_map number_of count) in
      let sums = number_sample (family ++ codes "_sum") labels sum in
      let end = number_sample (family ++ codes "_created") labels created in
      pairs-append (IsApart Summary) (front ++ (counts ++ sums)) end
      (pairs-append (IsApart Summary) front (counts ++ sums) (quantile_pairs labels qs free fair distinct)
      (pairs-append (IsApart Summary) counts sums (option_apart Summary (family ++ codes "_count") labels (option_map number_of count)) (option_apart Summary (family ++ codes "_sum") labels sum)
      (to_option Summary counts (codes "_sum") labels sum refl refl (option_not (codes "_count") (codes "_sum") labels (option_map number_of count) refl)))
      (joined front counts sums
      (to_option Summary front (codes "_count") labels (option_map number_of count) refl refl (quantiles_not (codes "_count") labels qs refl))
      (to_option Summary front (codes "_sum") labels sum refl refl (quantiles_not (codes "_sum") labels qs refl))))
      (option_apart Summary (family ++ codes "_created") labels created)
      (to_option Summary (front ++ (counts ++ sums)) (codes "_created") labels created refl refl
      (all-append (NotNamed (codes "_created")) front (counts ++ sums) (quantiles_not (codes "_created") labels qs refl)
      (all-append (NotNamed (codes "_created")) counts sums (option_not (codes "_count") (codes "_created") labels (option_map number_of count) refl) (option_not (codes "_sum") (codes "_created") labels sum refl))))
    where
      joined : (xs ys zs : List Sample) → AllByRecursion (λ x. AllByRecursion (IsApart Summary x) ys) xs → AllByRecursion (λ x. AllByRecursion (IsApart Summary x) zs) xs → AllByRecursion (λ x. AllByRecursion (IsApart Summary x) (ys ++ zs)) xs
      joined [] ys zs h k = tt
      joined (x ∷ xs) ys zs h k = (all-append (IsApart Summary x) ys zs h.0 k.0, joined xs ys zs h.1 k.1)

  -- ---- one sample, and a created time of a counter

  plain_pairs : (kind : Kind) (labels : LabelSet) (n : Number) (created : Option Number) → is_histogram kind ≡ false → IsFormedTime OpenMetrics kind created → (kind ≡ Summary → ⊥)
      → Pairs (IsApart kind) ((bare_sample (key_name OpenMetrics kind family) labels n ∷ []) ++ number_sample (family ++ codes "_created") labels created)
  plain_pairs kind labels n None h time other = (tt, tt)
  plain_pairs Counter labels n (Some c) h time other = (((and_left _ _ (name_test family (codes "_total") (codes "_created")), tt), tt), (tt, tt))
  plain_pairs Histogram labels n (Some c) h time other = absurd (let k : true ≡ false = h in cc)
  plain_pairs GaugeHistogram labels n (Some c) h time other = absurd (let k : true ≡ false = h in cc)
  plain_pairs Summary labels n (Some c) h time other = absurd (other refl)
  plain_pairs Gauge labels n (Some c) h time other = absurd (let k : false ≡ true = time.0 in cc)
  plain_pairs StateSet labels n (Some c) h time other = absurd (let k : false ≡ true = time.0 in cc)
  plain_pairs Info labels n (Some c) h time other = absurd (let k : false ≡ true = time.0 in cc)
  plain_pairs Unknown labels n (Some c) h time other = absurd (let k : false ≡ true = time.0 in cc)

  -- ---- readings

  -- the samples of a reading are apart
  value_pairs : (kind : Kind) (labels : LabelSet) (value : Value) (created : Option Number) → IsFormedValue OpenMetrics treatments.Written kind family labels value → IsFormedTime OpenMetrics kind created
      → Pairs (IsApart kind) (value_samples kind family labels value ++ number_sample (family ++ codes "_created") labels created)
  unfolding value_samples is_plain_value
  value_pairs Counter labels (values.Plain n) created h time = plain_pairs Counter labels n created refl time (λ e. cc)
  value_pairs Gauge labels (values.Plain n) created h time = plain_pairs Gauge labels n created refl time (λ e. cc)
  value_pairs StateSet labels (values.Plain n) created h time = plain_pairs StateSet labels n created refl time (λ e. cc)
  value_pairs Info labels (values.Plain n) created h time = plain_pairs Info labels n created refl time (λ e. cc)
  value_pairs Unknown labels (values.Plain n) created h time = plain_pairs Unknown labels n created refl time (λ e. cc)
  value_pairs Histogram labels (values.Plain n) created h time = absurd (let k : false ≡ true = h.1 in cc)
  value_pairs GaugeHistogram labels (values.Plain n) created h time = absurd (let k : false ≡ true = h.1 in cc)
  value_pairs Summary labels (values.Plain n) created h time = absurd (let k : false ≡ true = h.1 in cc)
  value_pairs Histogram labels (values.Buckets bs sum) created h time =
      histogram_pairs Histogram labels bs sum created refl totals_of (not-true _ h.4) (rising bs h.1 (recursion_from_All (λ (b : Bucket). IsFormedNumber b.le) bs h.2))
  value_pairs GaugeHistogram labels (values.Buckets bs sum) created h time =
      histogram_pairs GaugeHistogram labels bs sum created refl gauge_totals_of (not-true _ h.4) (rising bs h.1 (recursion_from_All (λ (b : Bucket). IsFormedNumber b.le) bs h.2))
  value_pairs Summary labels (values.Quantiles qs count sum) created h time =
      summary_pairs labels qs count sum created (not-true _ h.6) (recursion_from_All (IsFairQuantile limit family) qs h.2) h.1
  value_pairs Counter labels (values.Buckets bs sum) created h time = absurd (let k : false ≡ true = h.0 in cc)
  value_pairs Gauge labels (values.Buckets bs sum) created h time = absurd (let k : false ≡ true = h.0 in cc)
  value_pairs StateSet labels (values.Buckets bs sum) created h time = absurd (let k : false ≡ true = h.0 in cc)
  value_pairs Info labels (values.Buckets bs sum) created h time = absurd (let k : false ≡ true = h.0 in cc)
  value_pairs Summary labels (values.Buckets bs sum) created h time = absurd (let k : false ≡ true = h.0 in cc)
  value_pairs Unknown labels (values.Buckets bs sum) created h time = absurd (let k : false ≡ true = h.0 in cc)
  value_pairs Counter labels (values.Quantiles qs count sum) created h time = absurd (let k : false ≡ true = h.0 in cc)
  value_pairs Gauge labels (values.Quantiles qs count sum) created h time = absurd (let k : false ≡ true = h.0 in cc)
  value_pairs StateSet labels (values.Quantiles qs count sum) created h time = absurd (let k : false ≡ true = h.0 in cc)
  value_pairs Info labels (values.Quantiles qs count sum) created h time = absurd (let k : false ≡ true = h.0 in cc)
  value_pairs Histogram labels (values.Quantiles qs count sum) created h time = absurd (let k : false ≡ true = h.0 in cc)
  value_pairs GaugeHistogram labels (values.Quantiles qs count sum) created h time = absurd (let k : false ≡ true = h.0 in cc)
  value_pairs Unknown labels (values.Quantiles qs count sum) created h time = absurd (let k : false ≡ true = h.0 in cc)

  reading_pairs : (kind : Kind) (unit : List ℕ) (r : Reading) → IsFormedReading OpenMetrics treatments.Written kind family unit r → Pairs (IsApart kind) (reading_samples kind family r)
  unfolding reading_samples
  reading_pairs kind unit r h = value_pairs kind r.key.labels r.value r.created h.value h.created

  -- ---- samples of two readings

  -- the labels of a sample's reading are told from its labels
  labels_only : (kind : Kind) (x s : Sample) → x.labels ≡ s.labels → reading_labels st kind family x ≡ reading_labels st kind family s
  labels_only Histogram x s e = ap (without_label (codes "le")) e
  labels_only GaugeHistogram x s e = ap (without_label (codes "le")) e
  labels_only Summary x s e = ap (without_label (codes "quantile")) e
  labels_only _ x s e = e

  two_differ : (kind : Kind) (a b : LabelSet) (x s : Sample) → a ≢ b → IsFair limit kind family a x → IsFair limit kind family b s → Differ x s
  two_differ kind a b x s ne fx fs = and_right _ _ (other_group x.labels s.labels (λ e. ne (sym fx.of ∙ labels_only kind x s e ∙ fs.of)))

  two_ordered : (kind : Kind) (a b : LabelSet) (x s : Sample) → a ≢ b → IsFair limit kind family a x → IsFair limit kind family b s → OrderOf kind x s
  two_ordered Histogram a b x s ne fx fs = λ both bucket.
      absurd (let other : (is_bucket family x && in_one_group st Histogram family x s) ≡ false = and_right _ _ (other_group (sample_group st Histogram family x) (sample_group st Histogram family s) (λ e. ne (sym fx.of ∙ e ∙ fs.of))) in
      let k : false ≡ true = sym other ∙ both in cc)
  two_ordered GaugeHistogram a b x s ne fx fs = λ both bucket.
      absurd (let other : (is_bucket family x && in_one_group st GaugeHistogram family x s) ≡ false = and_right _ _ (other_group (sample_group st GaugeHistogram family x) (sample_group st GaugeHistogram family s) (λ e. ne (sym fx.of ∙ e ∙ fs.of))) in
      let k : false ≡ true = sym other ∙ both in cc)
  two_ordered Summary a b x s ne fx fs = λ own.
      and_left _ _ (and_right _ _ (other_group (sample_group st Summary family x) (sample_group st Summary family s) (λ e. ne (sym fx.of ∙ e ∙ fs.of))))
  two_ordered _ a b x s ne fx fs = tt

  pub sets_differ : (a b : LabelSet) → label_sets_eq a b ≡ false → a ≢ b
  sets_differ a b e = λ f. absurd (let k : false ≡ true = sym e ∙ (label_sets_decide a b).1 f in cc)

  across : (kind : Kind) (a b : LabelSet) (xs ys : List Sample) → a ≢ b → AllByRecursion (IsFair limit kind family a) xs → AllByRecursion (IsFair limit kind family b) ys → AllByRecursion (λ x. AllByRecursion (IsApart kind x) ys) xs
  across kind a b xs ys ne fx fy =
      all-weaker (IsFair limit kind family a) (λ x. AllByRecursion (IsApart kind x) ys) (λ x f. all-weaker (IsFair limit kind family b) (IsApart kind x) (λ s g. (two_differ kind a b x s ne f g, two_ordered kind a b x s ne f g)) ys fy) xs fx

  module _ (kind : Kind) (unit : List ℕ) (name : is_metric_name family ≡ true) where
    -- the form of a reading of this family
    abbrev pub Formed : Reading → Type 0
    Formed r = IsFormedReading OpenMetrics treatments.Written kind family unit r

    crossed : (rs : List Reading) → AllByRecursion Formed rs → IsDistinct label_sets_eq (label_sets_of rs)
        → Pairs (λ r q. AllByRecursion (λ s. AllByRecursion (IsApart kind s) (reading_samples kind family q)) (reading_samples kind family r)) rs
    unfolding IsDistinct
    crossed [] h d = tt
    crossed (r ∷ rs) h d = (firsts rs h.1 d.0, crossed rs h.1 d.1)
      where
        firsts : (qs : List Reading) → AllByRecursion Formed qs → AllByRecursion (λ y. label_sets_eq r.key.labels y ≡ false) (label_sets_of qs)
            → AllByRecursion (λ q. AllByRecursion (λ s. AllByRecursion (IsApart kind s) (reading_samples kind family q)) (reading_samples kind family r)) qs
        firsts [] g e = tt
        firsts (q ∷ qs) g e = (
          across kind r.key.labels q.key.labels (reading_samples kind family r) (reading_samples kind family q) (sets_differ r.key.labels q.key.labels e.0)
              (fair_reading limit family kind unit r name h.0) (fair_reading limit family kind unit q name g.0),
          firsts qs g.1 e.1,
        )

    -- the samples of a family are apart
    pub family_pairs : (rs : List Reading) → AllByRecursion Formed rs → IsDistinct label_sets_eq (label_sets_of rs) → Pairs (IsApart kind) (flat_map (reading_samples kind family) rs)
    family_pairs rs h d = pairs-flat (IsApart kind) (reading_samples kind family) rs (all-weaker Formed (λ r. Pairs (IsApart kind) (reading_samples kind family r)) (λ r f. reading_pairs kind unit r f) rs h) (crossed rs h d)

  -- ---- the rule on order

  nearest_first : (kind : Kind) (s : Sample) (above : List Sample) → is_bucket family s ≡ true
      → AllByRecursion (λ t. (is_bucket family t && in_one_group st kind family t s) ≡ true → is_bucket family s ≡ true → follows_bucket t s ≡ true) above
      → breaks_bucket_order (filter (λ t. is_bucket family t && in_one_group st kind family t s) above) s ≡ false
  nearest_first kind s [] bucket h = refl
  nearest_first kind s (t ∷ above) bucket h = go (is_bucket family t && in_one_group st kind family t s) refl (nearest_first kind s above bucket h.1)
    where
      go : (b : Bool) → (is_bucket family t && in_one_group st kind family t s) ≡ b → breaks_bucket_order (filter (λ u. is_bucket family u && in_one_group st kind family u s) above) s ≡ false
          → breaks_bucket_order (filter (λ u. is_bucket family u && in_one_group st kind family u s) (t ∷ above)) s ≡ false
      go true e ih = rw e (ap not (h.0 e bucket))
      go false e ih = rw e ih

  -- a sample behind others from which it is apart keeps it
  pub in_order : (kind : Kind) (above : List Sample) (s : Sample) → AllByRecursion (λ t. OrderOf kind t s) above → is_out_of_order st kind family above s ≡ false
  unfolding is_out_of_order buckets_of_group
  in_order Histogram above s h = go (is_bucket family s) refl
    where
      go : (b : Bool) → is_bucket family s ≡ b → (is_bucket family s && breaks_bucket_order (filter (λ t. is_bucket family t && in_one_group st Histogram family t s) above) s) ≡ false
      go true e = and_right _ _ (nearest_first Histogram s above e h)
      go false e = and_left _ _ e
  in_order GaugeHistogram above s h = go (is_bucket family s) refl
    where
      go : (b : Bool) → is_bucket family s ≡ b → (is_bucket family s && breaks_bucket_order (filter (λ t. is_bucket family t && in_one_group st GaugeHistogram family t s) above) s) ≡ false
      go true e = and_right _ _ (nearest_first GaugeHistogram s above e h)
      go false e = and_left _ _ e
  in_order Summary above s h = go (has_suffix family [] s) refl
    where
      go : (b : Bool) → has_suffix family [] s ≡ b → (has_suffix family [] s && list_any (λ t. has_suffix family [] t && in_one_group st Summary family t s && same (quantile_at t) (quantile_at s)) above) ≡ false
      go true e = and_right _ _ (none-any (λ t. has_suffix family [] t && in_one_group st Summary family t s && same (quantile_at t) (quantile_at s)) above (all-weaker (λ t. OrderOf Summary t s) _ (λ t g. g e) above h))
      go false e = and_left _ _ e
  in_order _ above s h = refl
