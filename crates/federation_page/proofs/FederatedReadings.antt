-- The readings of a target as they stand on the page: their form, and the size of their lines.
use Rattle.std.proofs.Common.{◌≡◌, ℕ, suc, ◌+◌, ◌*◌, ◌≤◌, List, [], ◌∷◌, ◌++◌, map, length, codes, Option, Some, None, refl, sym, ap, subst, ◌∙◌, arith}
use Rattle.std.specs.Prelude.{option_map}
use Rattle.std.specs.List.{flat_map, AllByRecursion}
use Rattle.std.proofs.lemmas.List.{length-append}
use Rattle.label_sets.specs.declared.kind.Kind.{Kind}
use Rattle.label_sets.specs.declared.label.Label.{Label}
use Rattle.label_sets.specs.declared.label_set.LabelSet.{LabelSet}
use Rattle.label_sets.specs.Labels.{label_inserted}
use Rattle.label_sets.proofs.Laws.{all-append, all-front, all-behind, length-inserted}
use Rattle.exact_decimal.specs.declared.number.Number.{Number}
use Rattle.exact_decimal.specs.declared.number.Number.TheVariants.{Finite}
use Rattle.exact_decimal.specs.Numbers.{number_of}
use Rattle.exact_decimal.specs.Literals.{number_text}
use Rattle.page_model.specs.declared.format.Format.TheVariants.{OpenMetrics}
use Rattle.page_model.specs.declared.item.Sample.{Sample}
use Rattle.page_model.specs.declared.page.Bucket.{Bucket}
use Rattle.page_model.specs.declared.page.Quantile.{Quantile}
use Rattle.page_model.specs.declared.page.Value.{Value}
use Rattle.page_model.specs.declared.page.Value.TheVariants as values
use Rattle.page_model.specs.declared.page.Reading.{Reading}
use Rattle.page_model.specs.Readings.{key_name}
use Rattle.open_writing.specs.Writing.{bare_sample, number_sample, bucket_sample, quantile_sample, count_suffix, sum_suffix, observations, total_samples, value_samples, reading_samples, escaped, open_label_text, more_labels_text, labels_text, sample_text}
use Rattle.writing_laws.proofs.Laws.{total, escaped_length, total_inserted}
use Rattle.federation_page.specs.Candidates.{with_target}
use Rattle.federation_page.proofs.TargetLabels.{job_label, instance_label, target_length}

-- ---- sizes of labels as they are written

-- the bytes of a label as it is written, with a comma
abbrev pub label_bytes : Label → ℕ
label_bytes l = length (open_label_text l) + 1

more_bytes : (ls : List Label) → length (more_labels_text ls) ≡ total label_bytes ls
unfolding more_labels_text
more_bytes [] = refl
more_bytes (l ∷ ls) = let whole = length-append (44 ∷ open_label_text l) (flat_map (λ m. 44 ∷ open_label_text m) ls) in let rest = more_bytes ls in omega (arith, whole, rest)

-- some labels take their bytes and one more
labels_size : (l : Label) (ls : List Label) → length (labels_text (l ∷ ls)) ≡ total label_bytes (l ∷ ls) + 1
unfolding labels_text
labels_size l ls =
    let whole = length-append (codes "{" ++ (open_label_text l ++ more_labels_text ls)) (codes "}") in
    let inner = length-append (codes "{") (open_label_text l ++ more_labels_text ls) in
    let both = length-append (open_label_text l) (more_labels_text ls) in
    let rest = more_bytes ls in
    omega (arith, whole, inner, both, rest)

pub labels_most : (ls : List Label) → length (labels_text ls) ≤ total label_bytes ls + 1
unfolding labels_text
labels_most [] = omega arith
labels_most (l ∷ ls) = let size = labels_size l ls in omega (arith, size)

pub labels_least : (ls : List Label) → total label_bytes ls ≤ length (labels_text ls)
unfolding labels_text
labels_least [] = omega arith
labels_least (l ∷ ls) = let size = labels_size l ls in omega (arith, size)

value_bytes : (l : Label) (n : ℕ) → length l.value ≤ n → label_bytes l ≤ length l.name + 2 * n + 4
unfolding open_label_text
value_bytes l n h =
    let whole = length-append (l.name ++ codes "=\"" ++ escaped l.value) (codes "\"") in
    let front = length-append (l.name ++ codes "=\"") (escaped l.value) in
    let name = length-append l.name (codes "=\"") in
    let value = escaped_length l.value in
    omega (arith, whole, front, name, value, h)

-- the most bytes that a target's labels take in a line
abbrev pub most_target_bytes : ℕ
most_target_bytes = 1100

-- ---- samples with a target's labels

-- the second sample has the target's two labels more than the first, and no longer name
pub record HasTarget (s t : Sample) : Type 0 where
  pub name : length t.name ≤ length s.name
  pub value : t.value ≡ s.value
  pub count : length t.labels ≡ suc (suc (length s.labels))
  pub bytes : total label_bytes t.labels ≤ total label_bytes s.labels + 1090

-- the second labels have the target's two more than the first
pub record HaveTarget (ls ms : LabelSet) : Type 0 where
  pub count : length ms ≡ suc (suc (length ls))
  pub bytes : total label_bytes ms ≤ total label_bytes ls + 1090

pub target_more : (job instance : List ℕ) (ls : LabelSet) → length job ≤ 256 → length instance ≤ 262 → HaveTarget ls (with_target job instance ls)
unfolding with_target
target_more job instance ls j i = record {
  count = target_length job instance ls;
  bytes =
      let first = total_inserted label_bytes (instance_label instance) (label_inserted (job_label job) ls) in
      let second = total_inserted label_bytes (job_label job) ls in
      let jobs = value_bytes (job_label job) 256 j in
      let instances = value_bytes (instance_label instance) 262 i in
      omega (arith, first, second, jobs, instances);
}

more_inserted : (l : Label) (ls ms : LabelSet) → HaveTarget ls ms → HaveTarget (label_inserted l ls) (label_inserted l ms)
more_inserted l ls ms h = record {
  count = length-inserted l ms ∙ ap suc (h.count ∙ sym (ap suc (length-inserted l ls)));
  bytes = let a = total_inserted label_bytes l ms in let b = total_inserted label_bytes l ls in let c = h.bytes in omega (arith, a, b, c);
}

module _ (P Q : Sample → Type 0) (carry : (s t : Sample) → HasTarget s t → P s → Q t) (kind new : Kind) (family name : List ℕ) (ls ms : LabelSet) (more : HaveTarget ls ms)
    (shorter : length name ≤ length family) (key : length (key_name OpenMetrics new name) ≤ length (key_name OpenMetrics kind family)) where
  carried : (from to : List ℕ) (n : Number) → length to ≤ length from → P (bare_sample from ls n) → Q (bare_sample to ms n)
  carried from to n le p = carry (bare_sample from ls n) (bare_sample to ms n) (record { name = le; value = refl; count = more.count; bytes = more.bytes }) p

  suffixed : (suffix other : List ℕ) → length other ≤ length suffix → length (name ++ other) ≤ length (family ++ suffix)
  suffixed suffix other le = let a = length-append name other in let b = length-append family suffix in omega (arith, a, b, le, shorter)

  number_carried : (suffix : List ℕ) (o : Option Number) → AllByRecursion P (number_sample (family ++ suffix) ls o) → AllByRecursion Q (number_sample (name ++ suffix) ms o)
  number_carried suffix None h = tt
  number_carried suffix (Some n) h = (carried (family ++ suffix) (name ++ suffix) n (suffixed suffix suffix (omega arith)) h.0, tt)

  buckets_carried : (bs : List Bucket) → AllByRecursion P (map (bucket_sample family ls) bs) → AllByRecursion Q (map (bucket_sample name ms) bs)
  buckets_carried [] h = tt
  buckets_carried (b ∷ bs) h =
      let inserted = more_inserted (record { name = codes "le"; value = number_text b.le }) ls ms more in
      (carry (bucket_sample family ls b) (bucket_sample name ms b) (record { name = suffixed (codes "_bucket") (codes "_bucket") (omega arith); value = refl; count = inserted.count; bytes = inserted.bytes }) h.0, buckets_carried bs h.1)

  quantiles_carried : (qs : List Quantile) → AllByRecursion P (map (quantile_sample family ls) qs) → AllByRecursion Q (map (quantile_sample name ms) qs)
  quantiles_carried [] h = tt
  quantiles_carried (q ∷ qs) h =
      let inserted = more_inserted (record { name = codes "quantile"; value = number_text (Finite q.at) }) ls ms more in
      (carry (quantile_sample family ls q) (quantile_sample name ms q) (record { name = shorter; value = refl; count = inserted.count; bytes = inserted.bytes }) h.0, quantiles_carried qs h.1)

  totals_carried : length (count_suffix new) ≤ length (count_suffix kind) → length (sum_suffix new) ≤ length (sum_suffix kind) → (bs : List Bucket) (sum : Option Number) → AllByRecursion P (total_samples kind family ls bs sum) → AllByRecursion Q (total_samples new name ms bs sum)
  totals_carried count_le sum_le bs None h = tt
  totals_carried count_le sum_le bs (Some sum) h = (
    carried (family ++ count_suffix kind) (name ++ count_suffix new) (number_of (observations bs)) (suffixed (count_suffix kind) (count_suffix new) count_le) h.0,
    (carried (family ++ sum_suffix kind) (name ++ sum_suffix new) sum (suffixed (sum_suffix kind) (sum_suffix new) sum_le) h.1.0, tt),
  )

  value_carried : length (count_suffix new) ≤ length (count_suffix kind) → length (sum_suffix new) ≤ length (sum_suffix kind) → (v : Value) → AllByRecursion P (value_samples kind family ls v) → AllByRecursion Q (value_samples new name ms v)
  unfolding value_samples
  value_carried count_le sum_le (values.Plain n) h = (carried (key_name OpenMetrics kind family) (key_name OpenMetrics new name) n key h.0, tt)
  value_carried count_le sum_le (values.Buckets bs sum) h =
      all-append Q (map (bucket_sample name ms) bs) (total_samples new name ms bs sum) (buckets_carried bs (all-front P (map (bucket_sample family ls) bs) (total_samples kind family ls bs sum) h))
      (totals_carried count_le sum_le bs sum (all-behind P (map (bucket_sample family ls) bs) (total_samples kind family ls bs sum) h))
  value_carried count_le sum_le (values.Quantiles qs count sum) h =
      let counts = number_sample (family ++ codes "_count") ls (option_map number_of count) in
      let sums = number_sample (family ++ codes "_sum") ls sum in
      let rest = all-behind P (map (quantile_sample family ls) qs) (counts ++ sums) h in
      all-append Q (map (quantile_sample name ms) qs) (number_sample (name ++ codes "_count") ms (option_map number_of count) ++ number_sample (name ++ codes "_sum") ms sum) (quantiles_carried qs (all-front P (map (quantile_sample family ls) qs) (counts ++ sums) h))
      (all-append Q (number_sample (name ++ codes "_count") ms (option_map number_of count)) (number_sample (name ++ codes "_sum") ms sum) (number_carried (codes "_count") (option_map number_of count) (all-front P counts sums rest)) (number_carried (codes "_sum") sum (all-behind P counts sums rest)))

-- what holds of each sample of a reading holds of those of the reading with the target's labels, as far as it is carried
pub reading_carried : (P Q : Sample → Type 0) (carry : (s t : Sample) → HasTarget s t → P s → Q t) (kind new : Kind) (family name : List ℕ) (r q : Reading) → HaveTarget r.key.labels q.key.labels → q.value ≡ r.value → q.created ≡ r.created
    → length name ≤ length family → length (key_name OpenMetrics new name) ≤ length (key_name OpenMetrics kind family) → length (count_suffix new) ≤ length (count_suffix kind) → length (sum_suffix new) ≤ length (sum_suffix kind)
    → AllByRecursion P (reading_samples kind family r) → AllByRecursion Q (reading_samples new name q)
unfolding reading_samples
reading_carried P Q carry kind new family name r q more value created shorter key count_le sum_le h =
    let all = all-append Q (value_samples new name q.key.labels r.value) (number_sample (name ++ codes "_created") q.key.labels r.created)
    (value_carried P Q carry kind new family name r.key.labels q.key.labels more shorter key count_le sum_le r.value (all-front P (value_samples kind family r.key.labels r.value) (number_sample (family ++ codes "_created") r.key.labels r.created) h))
    (number_carried P Q carry kind new family name r.key.labels q.key.labels more shorter key (codes "_created") r.created (all-behind P (value_samples kind family r.key.labels r.value) (number_sample (family ++ codes "_created") r.key.labels r.created) h)) in
    subst (λ v. AllByRecursion Q (value_samples new name q.key.labels v ++ number_sample (name ++ codes "_created") q.key.labels q.created)) (sym value) (subst (λ c. AllByRecursion Q (value_samples new name q.key.labels r.value ++ number_sample (name ++ codes "_created") q.key.labels c)) (sym created) all)

-- the text of such a sample
pub longer_text : (n : ℕ) (s t : Sample) → HasTarget s t → length (sample_text s) ≤ n → length (sample_text t) ≤ n + most_target_bytes
unfolding sample_text
longer_text n s t h le =
    let a = length-append (s.name ++ labels_text s.labels ++ codes " ") (number_text s.value) in
    let b = length-append (s.name ++ labels_text s.labels) (codes " ") in
    let c = length-append s.name (labels_text s.labels) in
    let d = length-append (t.name ++ labels_text t.labels ++ codes " ") (number_text t.value) in
    let e = length-append (t.name ++ labels_text t.labels) (codes " ") in
    let f = length-append t.name (labels_text t.labels) in
    let same = ap (λ v. length (number_text v)) h.value in
    let most = labels_most t.labels in
    let least = labels_least s.labels in
    let name = h.name in
    let bytes = h.bytes in
    omega (arith, a, b, c, d, e, f, same, most, least, name, bytes, le)
