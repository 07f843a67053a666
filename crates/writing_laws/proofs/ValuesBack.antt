-- The value and the created time that the samples of a written reading say.
use Rattle.std.proofs.Common.{◌≡◌, ℕ, ◌^◌, ◌<◌, true, false, List, [], ◌∷◌, ◌++◌, map, filter, find, codes, Option, Some, None, option_map, refl, sym, ap, ◌∙◌, append_assoc}
use Rattle.std.specs.Prelude.{⊤, unwrap_or}
use Rattle.std.specs.List.{AllByRecursion}
use Rattle.std.specs.Option.{option_or}
use Rattle.std.specs.Str.{bytes_eq}
use Rattle.std.proofs.lemmas.List.{append-nil}
use Rattle.std.proofs.lemmas.List.Folds.{find-append}
use Rattle.std.proofs.lemmas.List.Elements.{filter-append}
use Rattle.label_sets.specs.declared.kind.Kind.TheVariants.{Counter, Histogram}
use Rattle.label_sets.specs.declared.label_set.LabelSet.{LabelSet}
use Rattle.label_sets.specs.Labels.{has_name}
use Rattle.exact_decimal.specs.declared.number.Number.{Number}
use Rattle.exact_decimal.specs.Numbers.{number_of}
use Rattle.exact_decimal.specs.Order.{whole}
use Rattle.page_model.specs.declared.format.Format.TheVariants.{OpenMetrics}
use Rattle.page_model.specs.declared.item.Sample.{Sample}
use Rattle.page_model.specs.declared.page.Bucket.{Bucket}
use Rattle.page_model.specs.declared.page.Value.TheVariants as values
use Rattle.page_model.specs.Suffixes.{suffix_of}
use Rattle.page_model.specs.Rules.{has_suffix, is_bucket}
use Rattle.page_model.specs.Readings.{value_with, either_value, bucket_of, buckets_of, sum_of, value_of}
use Rattle.open_writing.specs.Writing.{bare_sample, number_sample, with_number_label, bucket_sample, total_samples, observations}
use Rattle.open_writing.specs.Forms.{IsFormedNumber}
use Rattle.writing_laws.proofs.PutLabels.{written_threshold}
use Rattle.writing_laws.proofs.BucketRules.{suffix_read}
use Rattle.exact_decimal.proofs.Laws.{whole_back}

-- the suffix of a written sample
pub suffix_is : (family suffix other : List ℕ) (labels : LabelSet) (n : Number) → has_suffix family other (bare_sample (family ++ suffix) labels n) ≡ bytes_eq suffix other
suffix_is family suffix other labels n = ap (λ s. bytes_eq s other) (suffix_read family suffix)

-- and of one that is named like its family
pub no_suffix : (family other : List ℕ) (labels : LabelSet) (n : Number) → has_suffix family other (bare_sample family labels n) ≡ bytes_eq [] other
no_suffix family other labels n = ap (λ s. bytes_eq s other) (ap (suffix_of family) (sym (append-nil family)) ∙ suffix_read family [])

-- ---- created times

-- none of the samples has this suffix
abbrev pub Lacks : List ℕ → List ℕ → List Sample → Type 0
Lacks family suffix ss = AllByRecursion (λ s. has_suffix family suffix s ≡ false) ss

pub not_found : (family suffix : List ℕ) (ss : List Sample) → Lacks family suffix ss → find (has_suffix family suffix) ss ≡ None
not_found family suffix [] h = refl
not_found family suffix (s ∷ ss) h = rw h.0 (not_found family suffix ss h.1)

pub none_kept : (family suffix : List ℕ) (ss : List Sample) → Lacks family suffix ss → filter (has_suffix family suffix) ss ≡ []
none_kept family suffix [] h = refl
none_kept family suffix (s ∷ ss) h = rw h.0 (none_kept family suffix ss h.1)

pub lacks_append : (family suffix : List ℕ) (ss ts : List Sample) → Lacks family suffix ss → Lacks family suffix ts → Lacks family suffix (ss ++ ts)
lacks_append family suffix [] ts h k = k
lacks_append family suffix (s ∷ ss) ts h k = (h.0, lacks_append family suffix ss ts h.1 k)

-- a number behind samples without its suffix
pub behind_back : (family suffix : List ℕ) (labels : LabelSet) (n : Option Number) (ss : List Sample) → Lacks family suffix ss → bytes_eq suffix suffix ≡ true → value_with family suffix (ss ++ number_sample (family ++ suffix) labels n) ≡ n
unfolding value_with
behind_back family suffix labels None ss h e = ap (option_map (λ (s : Sample). s.value)) (ap (find (has_suffix family suffix)) (append-nil ss) ∙ not_found family suffix ss h)
behind_back family suffix labels (Some n) ss h e =
    let here : has_suffix family suffix (bare_sample (family ++ suffix) labels n) ≡ true = suffix_is family suffix suffix labels n ∙ e in
    let found : option_or (find (has_suffix family suffix) ss) (find (has_suffix family suffix) (bare_sample (family ++ suffix) labels n ∷ [])) ≡ Some (bare_sample (family ++ suffix) labels n) = rw (not_found family suffix ss h, here) refl in
    ap (option_map (λ (s : Sample). s.value)) (find-append (has_suffix family suffix) ss (bare_sample (family ++ suffix) labels n ∷ []) ∙ found)

-- a number in front of samples without its suffix
pub before_back : (family suffix : List ℕ) (labels : LabelSet) (n : Option Number) (ss : List Sample) → Lacks family suffix ss → bytes_eq suffix suffix ≡ true → value_with family suffix (number_sample (family ++ suffix) labels n ++ ss) ≡ n
unfolding value_with
before_back family suffix labels None ss h e = ap (option_map (λ (s : Sample). s.value)) (not_found family suffix ss h)
before_back family suffix labels (Some n) ss h e =
    let here : has_suffix family suffix (bare_sample (family ++ suffix) labels n) ≡ true = suffix_is family suffix suffix labels n ∙ e in
    rw here refl

pub number_lacks : (family suffix other : List ℕ) (labels : LabelSet) (n : Option Number) → bytes_eq suffix other ≡ false → Lacks family other (number_sample (family ++ suffix) labels n)
number_lacks family suffix other labels None e = tt
number_lacks family suffix other labels (Some n) e = (suffix_is family suffix other labels n ∙ e, tt)

-- ---- counters

-- a counter's total and its created time
pub counter_back : (family : List ℕ) (labels : LabelSet) (n : Number) (created : Option Number) →
    (value_of OpenMetrics Counter family (bare_sample (family ++ codes "_total") labels n ∷ number_sample (family ++ codes "_created") labels created) ≡ Some (values.Plain n))
    × (value_with family (codes "_created") (bare_sample (family ++ codes "_total") labels n ∷ number_sample (family ++ codes "_created") labels created) ≡ created)
unfolding value_of
counter_back family labels n created = (
  ap (option_map values.Plain) (before_back family (codes "_total") labels (Some n) (number_sample (family ++ codes "_created") labels created) (number_lacks family (codes "_created") (codes "_total") labels created refl) refl),
  behind_back family (codes "_created") labels created (bare_sample (family ++ codes "_total") labels n ∷ []) (suffix_is family (codes "_total") (codes "_created") labels n ∙ refl, tt) refl,
)

-- ---- histograms

pub buckets_lack : (family other : List ℕ) (labels : LabelSet) (bs : List Bucket) → bytes_eq (codes "_bucket") other ≡ false → Lacks family other (map (bucket_sample family labels) bs)
buckets_lack family other labels [] e = tt
buckets_lack family other labels (b ∷ bs) e = (suffix_is family (codes "_bucket") other (with_number_label (codes "le") b.le labels) (number_of b.count) ∙ e, buckets_lack family other labels bs e)

-- each bound is in its one form, and each count below 2 ^ 64
abbrev pub AreFormed : List Bucket → Type 0
AreFormed [] = ⊤
AreFormed (b ∷ bs) = (IsFormedNumber b.le × (b.count < 2 ^ 64)) × AreFormed bs

one_bucket : (family : List ℕ) (labels : LabelSet) (b : Bucket) → has_name labels (codes "le") ≡ false → IsFormedNumber b.le → b.count < 2 ^ 64 → bucket_of (bucket_sample family labels b) ≡ b
one_bucket family labels b free formed small =
    let le = written_threshold family labels b free formed in
    let count : unwrap_or (whole (number_of b.count)) 0 ≡ b.count = ap (λ o. unwrap_or o 0) (whole_back b.count small) in
    λ i. record { le = le i; count = count i }

buckets_kept : (family : List ℕ) (labels : LabelSet) (bs : List Bucket) → has_name labels (codes "le") ≡ false → AreFormed bs → map bucket_of (filter (is_bucket family) (map (bucket_sample family labels) bs)) ≡ bs
buckets_kept family labels [] free h = refl
buckets_kept family labels (b ∷ bs) free h =
    let here : is_bucket family (bucket_sample family labels b) ≡ true = suffix_is family (codes "_bucket") (codes "_bucket") (with_number_label (codes "le") b.le labels) (number_of b.count) in
    rw here (ap (λ c. c ∷ map bucket_of (filter (is_bucket family) (map (bucket_sample family labels) bs))) (one_bucket family labels b free h.0.0 h.0.1) ∙ ap (λ cs. b ∷ cs) (buckets_kept family labels bs free h.1))

-- the buckets that samples say, behind which none is another
pub buckets_back : (family : List ℕ) (labels : LabelSet) (bs : List Bucket) (rest : List Sample) → has_name labels (codes "le") ≡ false → AreFormed bs → Lacks family (codes "_bucket") rest
    → buckets_of family (map (bucket_sample family labels) bs ++ rest) ≡ bs
unfolding buckets_of
buckets_back family labels bs rest free h lacks =
    ap (map bucket_of) (filter-append (is_bucket family) (map (bucket_sample family labels) bs) rest ∙ ap (λ ts. filter (is_bucket family) (map (bucket_sample family labels) bs) ++ ts) (none_kept family (codes "_bucket") rest lacks)
    ∙ append-nil (filter (is_bucket family) (map (bucket_sample family labels) bs))) ∙ buckets_kept family labels bs free h

totals_lack : (family other : List ℕ) (labels : LabelSet) (bs : List Bucket) (sum : Option Number) → bytes_eq (codes "_count") other ≡ false → bytes_eq (codes "_sum") other ≡ false → Lacks family other (total_samples Histogram family labels bs sum)
totals_lack family other labels bs None e f = tt
totals_lack family other labels bs (Some n) e f = (suffix_is family (codes "_count") other labels (number_of (observations bs)) ∙ e, (suffix_is family (codes "_sum") other labels n ∙ f, tt))

-- the samples of a histogram's reading
abbrev histogram_samples : List ℕ → LabelSet → List Bucket → Option Number → Option Number → List Sample
histogram_samples family labels bs sum created = (map (bucket_sample family labels) bs ++ total_samples Histogram family labels bs sum) ++ number_sample (family ++ codes "_created") labels created

pub skip : (family suffix : List ℕ) (ss ts : List Sample) → Lacks family suffix ss → value_with family suffix (ss ++ ts) ≡ value_with family suffix ts
unfolding value_with
skip family suffix ss ts h =
    ap (option_map (λ (s : Sample). s.value)) (find-append (has_suffix family suffix) ss ts ∙ ap (λ o. option_or o (find (has_suffix family suffix) ts)) (not_found family suffix ss h))

sum_found : (family : List ℕ) (labels : LabelSet) (bs : List Bucket) (sum created : Option Number) → value_with family (codes "_sum") (total_samples Histogram family labels bs sum ++ number_sample (family ++ codes "_created") labels created) ≡ sum
unfolding value_with
sum_found family labels bs None created = ap (option_map (λ (s : Sample). s.value)) (not_found family (codes "_sum") (number_sample (family ++ codes "_created") labels created) (number_lacks family (codes "_created") (codes "_sum") labels created refl))
sum_found family labels bs (Some n) created =
    let count : has_suffix family (codes "_sum") (bare_sample (family ++ codes "_count") labels (number_of (observations bs))) ≡ false = suffix_is family (codes "_count") (codes "_sum") labels (number_of (observations bs)) in
    let sum : has_suffix family (codes "_sum") (bare_sample (family ++ codes "_sum") labels n) ≡ true = suffix_is family (codes "_sum") (codes "_sum") labels n in
    rw (count, sum) refl

no_gauge_sum : (family : List ℕ) (labels : LabelSet) (bs : List Bucket) (sum created : Option Number) → value_with family (codes "_gsum") (histogram_samples family labels bs sum created) ≡ None
unfolding value_with
no_gauge_sum family labels bs sum created = ap (option_map (λ (s : Sample). s.value)) (not_found family (codes "_gsum") (histogram_samples family labels bs sum created)
    (lacks_append family (codes "_gsum") (map (bucket_sample family labels) bs ++ total_samples Histogram family labels bs sum) (number_sample (family ++ codes "_created") labels created)
    (lacks_append family (codes "_gsum") (map (bucket_sample family labels) bs) (total_samples Histogram family labels bs sum) (buckets_lack family (codes "_gsum") labels bs refl) (totals_lack family (codes "_gsum") labels bs sum refl refl))
    (number_lacks family (codes "_created") (codes "_gsum") labels created refl)))

pub either_none : (o : Option Number) → either_value o None ≡ o
either_none None = refl
either_none (Some n) = refl

-- the value and the created time of a written histogram
pub histogram_back : (family : List ℕ) (labels : LabelSet) (bs : List Bucket) (sum created : Option Number) → has_name labels (codes "le") ≡ false → AreFormed bs →
    (value_of OpenMetrics Histogram family (histogram_samples family labels bs sum created) ≡ Some (values.Buckets bs sum))
    × (value_with family (codes "_created") (histogram_samples family labels bs sum created) ≡ created)
unfolding value_of sum_of
histogram_back family labels bs sum created free h =
    let front = map (bucket_sample family labels) bs in
    let totals = total_samples Histogram family labels bs sum in
    let end = number_sample (family ++ codes "_created") labels created in
    let regrouped = append_assoc front totals end in
    let is_sum : value_with family (codes "_sum") (histogram_samples family labels bs sum created) ≡ sum
    = ap (value_with family (codes "_sum")) regrouped ∙ skip family (codes "_sum") front (totals ++ end) (buckets_lack family (codes "_sum") labels bs refl) ∙ sum_found family labels bs sum created in
    let both : either_value (value_with family (codes "_sum") (histogram_samples family labels bs sum created)) (value_with family (codes "_gsum") (histogram_samples family labels bs sum created)) ≡ sum
    = ap (λ o. either_value o (value_with family (codes "_gsum") (histogram_samples family labels bs sum created))) is_sum ∙ ap (either_value sum) (no_gauge_sum family labels bs sum created) ∙ either_none sum in
    let buckets : buckets_of family (histogram_samples family labels bs sum created) ≡ bs
    = ap (buckets_of family) regrouped ∙ buckets_back family labels bs (totals ++ end) free h
    (lacks_append family (codes "_bucket") totals end (totals_lack family (codes "_bucket") labels bs sum refl refl) (number_lacks family (codes "_created") (codes "_bucket") labels created refl)) in (
      ap (λ cs. Some (values.Buckets cs (sum_of family (histogram_samples family labels bs sum created)))) buckets ∙ ap (λ o. Some (values.Buckets bs o)) both,
      behind_back family (codes "_created") labels created (front ++ totals)
          (lacks_append family (codes "_created") front totals (buckets_lack family (codes "_created") labels bs refl) (totals_lack family (codes "_created") labels bs sum refl refl)) refl,
    )
