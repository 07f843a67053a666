-- The lines that are written of a scraped page are short: from the labels of its readings, whose names may have grown.
use Rattle.std.proofs.Common.{◌≡◌, ℕ, zero, suc, ◌+◌, ◌*◌, ◌^◌, ◌<◌, ◌≤◌, Bool, true, false, cond, not, ◌||◌, List, [], ◌∷◌, ◌++◌, ◌==◌, map, length, codes, Option, Some, None, option_map, refl, sym, ap, ◌∙◌, arith}
use Rattle.std.specs.List.{flat_map, AllByRecursion, IsDistinct}
use Rattle.std.specs.Str.{bytes_eq}
use Rattle.std.specs.Cmp.Lexicographic.{bytes_decides}
use Rattle.std.proofs.lemmas.Bool.Decides.{nat_tests}
use Rattle.std.proofs.lemmas.Map.Text.{is_eq-slice_cmp}
use Rattle.std.proofs.lemmas.List.{length-append}
use Rattle.std.proofs.lemmas.List.Elements.{recursion_from_All}
use Rattle.std.proofs.lemmas.List.Sorted.{IsPermutation-refl}
use Rattle.label_sets.specs.declared.kind.Kind.{Kind}
use Rattle.label_sets.specs.declared.kind.Kind.TheVariants.{Counter, GaugeHistogram, Info}
use Rattle.label_sets.specs.declared.label.Label.{Label}
use Rattle.label_sets.specs.declared.label_set.LabelSet.{LabelSet}
use Rattle.label_sets.specs.Labels.{has_name, without_label, exported_name, label_renamed}
use Rattle.label_sets.specs.Sets.{IsLabelSet}
use Rattle.label_sets.specs.Building.{same_name}
use Rattle.label_sets.proofs.Laws.{distinct_before, all-append, all-weaker, length-inserted, bytes_eq-swap}
use Rattle.exact_decimal.specs.declared.number.Number.{Number}
use Rattle.exact_decimal.specs.declared.number.Number.TheVariants.{Finite}
use Rattle.exact_decimal.specs.Numbers.{number_of}
use Rattle.exact_decimal.specs.Literals.{number_text}
use Rattle.exact_decimal.proofs.Laws.{length-decimal_text}
use Rattle.page_model.specs.declared.format.Format.{Format}
use Rattle.page_model.specs.declared.format.Format.TheVariants.{OpenMetrics}
use Rattle.page_model.specs.declared.format.Treatment.{Treatment}
use Rattle.page_model.specs.declared.format.Treatment.TheVariants as treatments
use Rattle.page_model.specs.declared.item.Sample.{Sample}
use Rattle.page_model.specs.declared.page.Bucket.{Bucket}
use Rattle.page_model.specs.declared.page.Quantile.{Quantile}
use Rattle.page_model.specs.declared.page.Value.{Value}
use Rattle.page_model.specs.declared.page.Value.TheVariants as values
use Rattle.page_model.specs.declared.page.Reading.{Reading}
use Rattle.page_model.specs.Owners.{kept_labels}
use Rattle.page_model.specs.Readings.{key_name}
use Rattle.open_writing.specs.Writing.{bare_sample, number_sample, with_number_label, bucket_sample, quantile_sample, count_suffix, sum_suffix, observations, total_samples, value_samples, reading_samples, escaped_char, escaped, open_label_text, more_labels_text, labels_text, sample_text}
use Rattle.open_writing.specs.Forms.{IsFormedNumber, IsFormedOption, is_u64_option, IsFormedValue, IsFormedTime, IsFormedReading}
use Rattle.writing_laws.proofs.FairParts.{counted}
use Rattle.writing_laws.proofs.Fair.{IsFairBucket, fair_of, few_observations}
use Rattle.writing_laws.proofs.FewLines.{total, nothing_else}
use Rattle.writing_laws.proofs.ShortLines.{labels_size, total_filtered, two, three, total_inserted, total_sorted}

-- ---- the bytes that a label may take

-- the bytes of its name, and its value's twice, since escapes at most double them
abbrev pub label_weight : Label → ℕ
label_weight l = length l.name + 2 * length l.value

abbrev pub labels_weight : List Label → ℕ
labels_weight ls = total label_weight ls

weight_size : (ls : List Label) → labels_weight ls ≤ 2 * labels_size ls
weight_size [] = omega arith
weight_size (l ∷ ls) = let rest = weight_size ls in omega (arith, rest)

-- ---- names that grow

exported_length : (more : ℕ) (ls : List Label) (name : List ℕ) → length (exported_name more ls name) ≤ length name + 9 * more
exported_length zero ls name = omega arith
exported_length (suc more) ls name = go (has_name ls (codes "exported_" ++ name)) (exported_length more ls (codes "exported_" ++ name))
  where
    longer : length (codes "exported_" ++ name) ≡ 9 + length name
    longer = length-append (codes "exported_") name

    go : (b : Bool) → length (exported_name more ls (codes "exported_" ++ name)) ≤ length (codes "exported_" ++ name) + 9 * more
        → length (cond b (exported_name more ls (codes "exported_" ++ name)) (codes "exported_" ++ name)) ≤ length name + 9 * suc more
    go true ih = omega (arith, ih, longer)
    go false ih = omega (arith, longer)

-- what a name may grow by, where it is this one
abbrev growth : ℕ → List ℕ → Label → ℕ
growth k name l = cond (bytes_eq l.name name) k 0

renamed_weight : (all : List Label) (l : Label) → label_weight (label_renamed all l) ≤ label_weight l + (growth (9 * length all) (codes "job") l + growth (9 * length all) (codes "instance") l)
renamed_weight all l = go (bytes_eq l.name (codes "job")) (bytes_eq l.name (codes "instance")) (exported_length (length all) all l.name)
  where
    go : (a b : Bool) → length (exported_name (length all) all l.name) ≤ length l.name + 9 * length all
        → label_weight (cond (a || b) (record { name = exported_name (length all) all l.name; value = l.value }) l) ≤ label_weight l + (cond a (9 * length all) 0 + cond b (9 * length all) 0)
    go true b h = one b
      where
        one : (c : Bool) → label_weight (record { name = exported_name (length all) all l.name; value = l.value }) ≤ label_weight l + (9 * length all + cond c (9 * length all) 0)
        one true = omega (arith, h)
        one false = omega (arith, h)
    go false true h = omega (arith, h)
    go false false h = omega arith

renamed_weights : (all ls : List Label) → labels_weight (map (label_renamed all) ls) ≤ labels_weight ls + (total (growth (9 * length all) (codes "job")) ls + total (growth (9 * length all) (codes "instance")) ls)
renamed_weights all [] = omega arith
renamed_weights all (l ∷ ls) = let here = renamed_weight all l in let rest = renamed_weights all ls in omega (arith, here, rest)

-- one label at most has a name
grown_once : (k : ℕ) (name : List ℕ) (ls : List Label) → IsDistinct same_name ls → total (growth k name) ls ≤ k
unfolding IsDistinct
grown_once k name [] d = omega arith
grown_once k name (l ∷ ls) d = go (bytes_eq l.name name) refl (grown_once k name ls d.1)
  where
    others : l.name ≡ name → (ms : List Label) → AllByRecursion (λ m. same_name l m ≡ false) ms → AllByRecursion (λ (m : Label). bytes_eq m.name name ≡ false) ms
    others e [] h = tt
    others e (m ∷ ms) h = (ap (λ n. bytes_eq m.name n) (sym e) ∙ bytes_eq-swap m.name l.name ∙ sym (is_eq-slice_cmp l.name m.name) ∙ h.0, others e ms h.1)

    go : (b : Bool) → bytes_eq l.name name ≡ b → total (growth k name) ls ≤ k → cond b k 0 + total (growth k name) ls ≤ k
    go false e ih = omega (arith, ih)
    go true e ih =
        let none : total (growth k name) ls ≡ 0 = nothing_else (λ (m : Label). bytes_eq m.name name) k ls (others ((bytes_decides l.name name).0 e) ls d.0) in
        omega (arith, none)

-- what is kept of the labels of a line
pub kept_weight : (t : Treatment) (ls : LabelSet) → IsLabelSet ls → length ls ≤ 64 → labels_weight (kept_labels t ls) ≤ 2 * labels_size ls + 1152
kept_weight treatments.Written ls set few = let own = weight_size ls in omega (arith, own)
kept_weight treatments.Scraped ls set few =
    let sorted = total_sorted label_weight (map (label_renamed ls) ls) in
    let grown = renamed_weights ls ls in
    let distinct = distinct_before ls ls (IsPermutation-refl ls) set.ascending in
    let job = grown_once (9 * length ls) (codes "job") ls distinct in
    let instance = grown_once (9 * length ls) (codes "instance") ls distinct in
    let own = weight_size ls in
    omega (arith, sorted, grown, job, instance, own, few)

pub without_weight : (name : List ℕ) (ls : LabelSet) → labels_weight (without_label name ls) ≤ labels_weight ls
without_weight name ls = total_filtered label_weight (λ (l : Label). not (bytes_eq l.name name)) ls

-- ---- texts

number_length : (n : Number) → IsFormedNumber n → length (number_text n) ≤ 45
unfolding number_text
number_length (Finite d) h = length-decimal_text d h
number_length _ h = omega arith

pub escaped_length : (text : List ℕ) → length (escaped text) ≤ 2 * length text
unfolding escaped
escaped_length [] = omega arith
escaped_length (c ∷ cs) =
    let parts : length (escaped_char c ++ flat_map escaped_char cs) ≡ length (escaped_char c) + length (flat_map escaped_char cs) = length-append (escaped_char c) (flat_map escaped_char cs) in
    let one = short_char (c == 92 || c == 34) (c == 10) in
    let rest = escaped_length cs in
    omega (arith, parts, one, rest)
  where
    short_char : (a b : Bool) → length (cond a (92 ∷ c ∷ []) (cond b (codes "\\n") (c ∷ []))) ≤ 2
    short_char true b = omega arith
    short_char false true = omega arith
    short_char false false = omega arith

label_length : (l : Label) → length (open_label_text l) ≤ label_weight l + 3
unfolding open_label_text
label_length l =
    let parts = two (l.name ++ codes "=\"" ++ escaped l.value) (codes "\"") in
    let inner = three l.name (codes "=\"") (escaped l.value) in
    let open_quote : length (codes "=\"") ≡ 2 = refl in
    let close_quote : length (codes "\"") ≡ 1 = refl in
    let value = escaped_length l.value in
    omega (arith, parts, inner, open_quote, close_quote, value)

more_length : (ls : List Label) → length (more_labels_text ls) ≤ labels_weight ls + 4 * length ls
unfolding more_labels_text
more_length [] = omega arith
more_length (l ∷ ls) =
    let parts : length ((44 ∷ open_label_text l) ++ more_labels_text ls) ≡ length (44 ∷ open_label_text l) + length (more_labels_text ls) = length-append (44 ∷ open_label_text l) (more_labels_text ls) in
    let here = label_length l in
    let rest = more_length ls in
    omega (arith, parts, here, rest)

labels_length : (ls : List Label) → length (labels_text ls) ≤ labels_weight ls + 4 * length ls + 2
unfolding labels_text
labels_length [] = omega arith
labels_length (l ∷ ls) =
    let parts = three (codes "{") (open_label_text l ++ more_labels_text ls) (codes "}") in
    let inner = two (open_label_text l) (more_labels_text ls) in
    let open_brace : length (codes "{") ≡ 1 = refl in
    let close_brace : length (codes "}") ≡ 1 = refl in
    let here = label_length l in
    let rest = more_length ls in
    omega (arith, parts, inner, open_brace, close_brace, here, rest)

-- ---- the samples of a reading

-- a sample of a reading of this family with these labels
record IsSmall (family : List ℕ) (labels : LabelSet) (s : Sample) : Type 0 where
  value : IsFormedNumber s.value
  name : length s.name ≤ length family + 8
  weight : labels_weight s.labels ≤ labels_weight labels + 98
  count : length s.labels ≤ length labels + 1

pub sample_length : (s : Sample) → IsFormedNumber s.value → length (sample_text s) ≤ length s.name + labels_weight s.labels + 4 * length s.labels + 48
unfolding sample_text
sample_length s h =
    let parts = two (s.name ++ labels_text s.labels ++ codes " ") (number_text s.value) in
    let inner = three s.name (labels_text s.labels) (codes " ") in
    let space : length (codes " ") ≡ 1 = refl in
    let labels = labels_length s.labels in
    let literal = number_length s.value h in
    omega (arith, parts, inner, space, labels, literal)

module _ (family : List ℕ) (labels : LabelSet) where
  with_suffix : (suffix : List ℕ) (n : Number) → length suffix ≤ 8 → IsFormedNumber n → IsSmall family labels (bare_sample (family ++ suffix) labels n)
  with_suffix suffix n short h = let parts = two family suffix in record { value = h; name = omega (arith, parts, short); weight = omega arith; count = omega arith }

  small_option : (suffix : List ℕ) (o : Option Number) → length suffix ≤ 8 → IsFormedOption o → AllByRecursion (IsSmall family labels) (number_sample (family ++ suffix) labels o)
  small_option suffix None short h = tt
  small_option suffix (Some n) short h = (with_suffix suffix n short h, tt)

  -- one with a number among its labels
  small_placed : (name : List ℕ) (n value : Number) (own : List ℕ) → length name ≤ 8 → IsFormedNumber n → length own ≤ length family + 8 → IsFormedNumber value → IsSmall family labels (bare_sample own (with_number_label name n labels) value)
  small_placed name n value own short formed named h =
      let weight = total_inserted label_weight (record { name = name; value = number_text n }) labels in
      let more = length-inserted (record { name = name; value = number_text n }) labels in
      let literal = number_length n formed in
      record { value = h; name = named; weight = omega (arith, weight, literal, short); count = omega (arith, more) }

  small_buckets : (limit : ℕ) (bs : List Bucket) → AllByRecursion (IsFairBucket limit family) bs → AllByRecursion (IsSmall family labels) (map (bucket_sample family labels) bs)
  small_buckets limit [] h = tt
  small_buckets limit (b ∷ bs) h =
      let parts = two family (codes "_bucket") in
      let suffix : length (codes "_bucket") ≡ 7 = refl in
      (small_placed (codes "le") b.le (number_of b.count) (family ++ codes "_bucket") (omega arith) h.0.0 (omega (arith, parts, suffix)) (counted b.count h.0.2), small_buckets limit bs h.1)

  count_short : (kind : Kind) → length (count_suffix kind) ≤ 8
  count_short GaugeHistogram = omega arith
  count_short _ = omega arith

  sum_short : (kind : Kind) → length (sum_suffix kind) ≤ 8
  sum_short GaugeHistogram = omega arith
  sum_short _ = omega arith

  small_totals : (kind : Kind) (bs : List Bucket) (sum : Option Number) → observations bs < 2 ^ 64 → IsFormedOption sum → AllByRecursion (IsSmall family labels) (total_samples kind family labels bs sum)
  small_totals kind bs None few h = tt
  small_totals kind bs (Some n) few h = (with_suffix (count_suffix kind) (number_of (observations bs)) (count_short kind) (counted (observations bs) few), (with_suffix (sum_suffix kind) n (sum_short kind) h, tt))

  small_quantiles : (qs : List Quantile) → AllByRecursion (λ (q : Quantile). IsFormedNumber (Finite q.at) × IsFormedNumber q.value) qs → AllByRecursion (IsSmall family labels) (map (quantile_sample family labels) qs)
  small_quantiles [] h = tt
  small_quantiles (q ∷ qs) h = (small_placed (codes "quantile") (Finite q.at) q.value family (omega arith) h.0.0 (omega arith) h.0.1, small_quantiles qs h.1)

  count_formed : (count : Option ℕ) → is_u64_option count ≡ true → IsFormedOption (option_map number_of count)
  count_formed None h = tt
  count_formed (Some n) h = let small : n < 2 ^ 64 = grind (arith, nat_tests) in counted n small

  key_short : (kind : Kind) → length (key_name OpenMetrics kind family) ≤ length family + 8
  key_short Counter = let parts = two family (codes "_total") in let suffix : length (codes "_total") ≡ 6 = refl in omega (arith, parts, suffix)
  key_short Info = let parts = two family (codes "_info") in let suffix : length (codes "_info") ≡ 5 = refl in omega (arith, parts, suffix)
  key_short _ = omega arith

  small_value : (f : Format) (t : Treatment) (kind : Kind) (v : Value) → IsFormedValue f t kind family labels v → AllByRecursion (IsSmall family labels) (value_samples kind family labels v)
  unfolding value_samples
  small_value f t kind (values.Plain n) h = (record { value = h.0; name = key_short kind; weight = omega arith; count = omega arith }, tt)
  small_value f t kind (values.Buckets bs sum) h =
      let fair = fair_of 0 family bs h.1 (recursion_from_All (λ (b : Bucket). IsFormedNumber b.le) bs h.2) in
      all-append (IsSmall family labels) (map (bucket_sample family labels) bs) (total_samples kind family labels bs sum) (small_buckets 0 bs fair) (small_totals kind bs sum (few_observations 0 family bs fair) h.3)
  small_value f t kind (values.Quantiles qs count sum) h =
      all-append (IsSmall family labels) (map (quantile_sample family labels) qs) _ (small_quantiles qs (recursion_from_All (λ (q : Quantile). IsFormedNumber (Finite q.at) × IsFormedNumber q.value) qs h.2))
      (all-append (IsSmall family labels) (number_sample (family ++ codes "_count") labels (option_map number_of count)) (number_sample (family ++ codes "_sum") labels sum)
      (small_option (codes "_count") (option_map number_of count) (omega arith) (count_formed count h.4)) (small_option (codes "_sum") sum (omega arith) h.3))

  time_formed : (f : Format) (kind : Kind) (o : Option Number) → IsFormedTime f kind o → IsFormedOption o
  time_formed f kind None h = tt
  time_formed f kind (Some n) h = h.2

-- the samples that are written of a reading in form are short, where its labels are
pub short_reading : (most : ℕ) (f : Format) (t : Treatment) (kind : Kind) (family unit : List ℕ) (r : Reading) → IsFormedReading f t kind family unit r → length family + labels_weight r.key.labels ≤ 2 * most + 1152 → length r.key.labels ≤ 64
    → AllByRecursion (λ (s : Sample). length (sample_text s) ≤ 2 * most + 2048) (reading_samples kind family r)
unfolding reading_samples
short_reading most f t kind family unit r formed short few =
    all-weaker (IsSmall family r.key.labels) (λ (s : Sample). length (sample_text s) ≤ 2 * most + 2048)
    (λ s h. let text = sample_length s h.value in let name = h.name in let weight = h.weight in let count = h.count in omega (arith, text, name, weight, count, short, few)) (value_samples kind family r.key.labels r.value ++ number_sample (family ++ codes "_created") r.key.labels r.created)
    (all-append (IsSmall family r.key.labels) (value_samples kind family r.key.labels r.value) (number_sample (family ++ codes "_created") r.key.labels r.created)
    (small_value family r.key.labels f t kind r.value formed.value) (small_option family r.key.labels (codes "_created") r.created (omega arith) (time_formed family r.key.labels f kind r.created formed.created)))
