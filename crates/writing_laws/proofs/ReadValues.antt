-- The value of a reading of lines without a fault: one number, or buckets, and its created time.
use Rattle.std.proofs.Common.{◌≡◌, ℕ, ◌+◌, ◌^◌, ◌≤◌, Bool, true, false, cond, not, ◌&&◌, ◌||◌, List, [], ◌∷◌, ◌++◌, map, filter, length, codes, Option, Some, None, option_map, refl, sym, ap, subst, ◌∙◌, arith}
use Rattle.std.specs.Prelude.{unwrap_or, nat_lt}
use Rattle.std.specs.List.{list_any, last_or, AllByRecursion}
use Rattle.std.specs.Option.{option_map_or}
use Rattle.std.specs.Str.{bytes_eq}
use Rattle.std.proofs.lemmas.Bool.{and_from, or_parts, not-false}
use Rattle.std.proofs.lemmas.Option.{same_Some}
use Rattle.std.proofs.lemmas.List.Elements.{All-from_recursion}
use Rattle.label_sets.specs.declared.kind.Kind.{Kind}
use Rattle.label_sets.specs.declared.kind.Kind.TheVariants.{Counter, Histogram, GaugeHistogram, StateSet, Info, Summary}
use Rattle.label_sets.specs.declared.label_set.LabelSet.{LabelSet}
use Rattle.label_sets.specs.Lists.{some_passes}
use Rattle.label_sets.specs.Labels.{has_name, label_value, without_label}
use Rattle.label_sets.proofs.Laws.{all-weaker}
use Rattle.exact_decimal.specs.declared.number.Number.{Number}
use Rattle.exact_decimal.specs.declared.number.Number.TheVariants.{Finite, NotANumber}
use Rattle.exact_decimal.specs.Numbers.{number, number_of}
use Rattle.exact_decimal.specs.Order.{less, same, whole, is_finite, is_not_a_number, is_exact, floor_of}
use Rattle.page_model.specs.declared.format.Format.{Format}
use Rattle.page_model.specs.declared.format.Format.TheVariants.{Text, OpenMetrics}
use Rattle.page_model.specs.declared.format.Treatment.{Treatment}
use Rattle.page_model.specs.declared.format.Treatment.TheVariants as treatments
use Rattle.page_model.specs.declared.item.Sample.{Sample}
use Rattle.page_model.specs.declared.page.Bucket.{Bucket}
use Rattle.page_model.specs.declared.page.Value.{Value}
use Rattle.page_model.specs.declared.page.Value.TheVariants as values
use Rattle.page_model.specs.Written.{Setting, label_limit}
use Rattle.page_model.specs.Suffixes.{suffixes, is_sample_name}
use Rattle.page_model.specs.Owners.{kept_labels}
use Rattle.page_model.specs.Rules.{is_open_metrics, is_histogram, has_suffix, is_bucket, threshold, is_up, is_bound, has_wrong_suffix, has_forbidden_value, has_bad_value, has_bad_threshold}
use Rattle.page_model.specs.Readings.{value_with, either_value, bucket_of, buckets_of, sum_of, counter_suffix, reading_labels}
use Rattle.sample_groups.proofs.Laws.{AreRising, RiseToUp}
use Rattle.open_writing.specs.Forms.{IsFormedNumber, IsFormedOption, is_taken_name, is_plain_value, is_u64, is_next_bucket, rise_to_infinity, is_u64_option, IsFormedValue, has_created_time, IsFormedTime}
use Rattle.writing_laws.proofs.ReadLabels.{kept_has, length_kept, length_taken}
use Rattle.writing_laws.proofs.ReadItems.{IsFormedSample, read_number}
use Rattle.writing_laws.proofs.ReadParts.{IsPart, found_value, allowed_suffix}

-- ---- created times

created_kind : (f : Format) (kind : Kind) → list_any (bytes_eq (codes "_created")) (suffixes f kind) ≡ true → (has_created_time f kind ≡ true) × (is_open_metrics f ≡ true)
created_kind OpenMetrics Counter e = (refl, refl)
created_kind OpenMetrics Histogram e = (refl, refl)
created_kind OpenMetrics Summary e = (refl, refl)
created_kind OpenMetrics _ e = absurd (let h : false ≡ true = e in cc)
created_kind Text Counter e = absurd (let h : false ≡ true = e in cc)
created_kind Text _ e = absurd (let h : false ≡ true = e in cc)

both_then : (a b c : Bool) → (a && b && not c) ≡ false → a ≡ true → b ≡ true → c ≡ true
both_then true true true e f g = refl
both_then true true false e f g = absurd (let h : true ≡ false = e in cc)
both_then true false c e f g = absurd cc
both_then false b c e f g = absurd cc

module _ (st : Setting) (family : List ℕ) (labels : LabelSet) where
  pub formed_time : (kind : Kind) (own : List Sample) → AllByRecursion (IsPart st kind family labels) own → (o : Option Number) → value_with family (codes "_created") own ≡ o → IsFormedTime st.format kind o
  unfolding has_wrong_suffix has_bad_value
  formed_time kind own h None e = tt
  formed_time kind own h (Some n) e =
      let s = found_value family (IsPart st kind family labels) (codes "_created") own n h e in
      let name : list_any (λ x. bytes_eq s.0.name (family ++ x)) (suffixes st.format kind) ≡ true = not-false (is_sample_name st.format kind family s.0.name) s.1.named in
      let created = created_kind st.format kind (allowed_suffix family (codes "_created") s.0 (suffixes st.format kind) s.2 name) in
      let late = (or_parts (has_forbidden_value kind family s.0) (is_open_metrics st.format && has_suffix family (codes "_created") s.0 && not (is_finite s.0.value)) s.1.valued).1 in
      let finite = both_then (is_open_metrics st.format) (has_suffix family (codes "_created") s.0) (is_finite s.0.value) late created.1 s.2 in
      (created.0, subst (λ m. is_finite m ≡ true) s.3 finite, subst IsFormedNumber s.3 s.1.formed.value)

  -- ---- one number

  pub plain_formed : (kind : Kind) (suffix : List ℕ) (own : List Sample) → AllByRecursion (IsPart st kind family labels) own
      → ((s : Sample) → IsPart st kind family labels s → has_suffix family suffix s ≡ true → is_plain_value st.format st.treatment kind family labels s.value ≡ true)
      → (v : Value) → option_map values.Plain (value_with family suffix own) ≡ Some v → IsFormedValue st.format st.treatment kind family labels v
  plain_formed kind suffix own h each v e = go (value_with family suffix own) refl e
    where
      go : (o : Option Number) → value_with family suffix own ≡ o → option_map values.Plain o ≡ Some v → IsFormedValue st.format st.treatment kind family labels v
      go None f k = absurd cc
      go (Some n) f k =
          let s = found_value family (IsPart st kind family labels) suffix own n h f in
          subst (IsFormedValue st.format st.treatment kind family labels) (same_Some (values.Plain n) v k)
          (subst IsFormedNumber s.3 s.1.formed.value, subst (λ m. is_plain_value st.format st.treatment kind family labels m ≡ true) s.3 (each s.0 s.1 s.2))

  pub counter_value : (f : Format) (t : Treatment) (s : Sample) → has_bad_value f Counter family s ≡ false → has_suffix family (counter_suffix f) s ≡ true → is_plain_value f t Counter family labels s.value ≡ true
  unfolding has_bad_value has_forbidden_value is_plain_value
  counter_value Text t s valued h = refl
  counter_value OpenMetrics t s valued h =
      let first = (or_parts (has_suffix family (codes "_total") s && (is_not_a_number s.value || less s.value (number_of 0))) _ valued).0 in
      by (has_suffix family (codes "_total") s) (is_not_a_number s.value || less s.value (number_of 0)) first h
    where
      by : (a b : Bool) → (a && b) ≡ false → a ≡ true → not b ≡ true
      by true true e f = absurd (let k : true ≡ false = e in cc)
      by true false e f = refl
      by false b e f = absurd cc

  pub info_value : (f : Format) (t : Treatment) (s : Sample) → has_bad_value f Info family s ≡ false → is_plain_value f t Info family labels s.value ≡ true
  unfolding has_bad_value has_forbidden_value is_plain_value
  info_value f t s valued = not-false (same s.value (number_of 1)) (or_parts (not (same s.value (number_of 1))) _ valued).0

  pub state_value : (f : Format) (s : Sample) → has_bad_value f StateSet family s ≡ false → reading_labels st StateSet family s ≡ labels → is_plain_value f st.treatment StateSet family labels s.value ≡ true
  unfolding has_bad_value has_forbidden_value is_plain_value
  state_value f s valued of =
      let state : Bool = same s.value (number_of 0) || same s.value (number_of 1) in
      let forbidden = (or_parts (not state || not (has_name s.labels family)) _ valued).0 in
      let both = or_parts (not state) (not (has_name s.labels family)) forbidden in
      and_from state (is_taken_name st.treatment family || has_name labels family) (not-false state both.0)
      (subst (λ ls. (is_taken_name st.treatment family || has_name ls family) ≡ true) of (kept_has st.treatment s.labels family (not-false (has_name s.labels family) both.1)))

  -- ---- numbers in labels

  no_label : (name : List ℕ) (ls : LabelSet) → has_name ls name ≡ false → label_value name ls ≡ None
  no_label name [] h = refl
  no_label name (l ∷ ls) h = go (bytes_eq l.name name) refl h (no_label name ls)
    where
      go : (b : Bool) → bytes_eq l.name name ≡ b → (b || has_name ls name) ≡ false → (has_name ls name ≡ false → label_value name ls ≡ None) → label_value name (l ∷ ls) ≡ None
      go true e k ih = absurd (let f : true ≡ false = k in cc)
      go false e k ih = rw e (ih k)

  pub label_number : (name : List ℕ) (ls : LabelSet) → IsFormedNumber (option_map_or number (label_value name ls) NotANumber)
  label_number name ls = go (label_value name ls)
    where
      go : (o : Option (List ℕ)) → IsFormedNumber (option_map_or number o NotANumber)
      go None = tt
      go (Some token) = read_number token

  -- a number that isn't NaN stands in a label
  pub has_number : (p : Number → Bool) (name : List ℕ) (ls : LabelSet) → p NotANumber ≡ false → p (option_map_or number (label_value name ls) NotANumber) ≡ true → has_name ls name ≡ true
  has_number p name ls none h = go (has_name ls name) refl
    where
      go : (b : Bool) → has_name ls name ≡ b → b ≡ true
      go true e = refl
      go false e = absurd (let k : true ≡ false = sym h ∙ ap (λ o. p (option_map_or number o NotANumber)) (no_label name ls e) ∙ none in cc)

  not_taken : (t : Treatment) (name : List ℕ) (ls : LabelSet) → is_taken_name t name ≡ false → has_name ls name ≡ true → has_name (kept_labels t ls) name ≡ true
  not_taken t name ls free h = ap (λ b. b || has_name (kept_labels t ls) name) (sym free) ∙ kept_has t ls name h

  free_le : (t : Treatment) → is_taken_name t (codes "le") ≡ false
  unfolding is_taken_name
  free_le treatments.Scraped = refl
  free_le treatments.Written = refl

  pub free_quantile : (t : Treatment) → is_taken_name t (codes "quantile") ≡ false
  unfolding is_taken_name
  free_quantile treatments.Scraped = refl
  free_quantile treatments.Written = refl

  -- a sample with a label more than its reading
  pub one_more : (name : List ℕ) (s : Sample) → IsFormedSample st.treatment s → without_label name (kept_labels st.treatment s.labels) ≡ labels → is_taken_name st.treatment name ≡ false → has_name s.labels name ≡ true
      → length labels + 1 ≤ label_limit st.treatment
  one_more name s formed of free h =
      let taken = length_taken name (kept_labels st.treatment s.labels) (not_taken st.treatment name s.labels free h) in
      let same_length : length (without_label name (kept_labels st.treatment s.labels)) ≡ length labels = ap length of in
      let kept = length_kept st.treatment s.labels in
      let few = formed.few in
      omega (arith, taken, same_length, kept, few)

  -- ---- buckets

  pub whole_fits : (n : Number) → is_u64_option (whole n) ≡ true
  unfolding whole
  whole_fits (Finite d) = go (not d.negative && is_exact d.digits d.up d.down) (nat_lt (floor_of d.digits d.up d.down) (2 ^ 64)) refl
    where
      go : (a b : Bool) → nat_lt (floor_of d.digits d.up d.down) (2 ^ 64) ≡ b → is_u64_option (cond a (cond b (Some (floor_of d.digits d.up d.down)) None) None) ≡ true
      go true true e = e
      go true false e = refl
      go false b e = refl
  whole_fits _ = refl

  count_fits : (o : Option ℕ) → is_u64_option o ≡ true → is_u64 (unwrap_or o 0) ≡ true
  count_fits None h = refl
  count_fits (Some n) h = h

  -- what a bucket of a page is
  pub record IsReadBucket (b : Bucket) : Type 0 where
    pub le : IsFormedNumber b.le
    pub count : is_u64 b.count ≡ true
    pub room : length labels + 1 ≤ label_limit st.treatment

  bucket_bound : (kind : Kind) (s : Sample) → is_histogram kind ≡ true → has_bad_threshold kind family s ≡ false → is_bucket family s ≡ true → is_bound (threshold s) ≡ true
  unfolding has_bad_threshold
  bucket_bound Histogram s k placed e = not-false (is_bound (threshold s)) (rw e at placed)
  bucket_bound GaugeHistogram s k placed e = not-false (is_bound (threshold s)) (rw e at placed)
  bucket_bound _ s k placed e = absurd cc

  histogram_labels : (kind : Kind) (s : Sample) → is_histogram kind ≡ true → reading_labels st kind family s ≡ labels → without_label (codes "le") (kept_labels st.treatment s.labels) ≡ labels
  histogram_labels Histogram s k of = of
  histogram_labels GaugeHistogram s k of = of
  histogram_labels _ s k of = absurd cc

  read_bucket : (kind : Kind) (s : Sample) → is_histogram kind ≡ true → IsPart st kind family labels s → is_bucket family s ≡ true → IsReadBucket (bucket_of s)
  read_bucket kind s k part e = record {
    le = label_number (codes "le") s.labels;
    count = count_fits (whole s.value) (whole_fits s.value);
    room = one_more (codes "le") s part.formed (histogram_labels kind s k part.of) (free_le st.treatment) (has_number is_bound (codes "le") s.labels refl (bucket_bound kind s k part.placed e));
  }

  pub read_buckets : (kind : Kind) (own : List Sample) → is_histogram kind ≡ true → AllByRecursion (IsPart st kind family labels) own → AllByRecursion IsReadBucket (buckets_of family own)
  unfolding buckets_of
  read_buckets kind [] k h = tt
  read_buckets kind (s ∷ own) k h = go (is_bucket family s) refl (read_buckets kind own k h.1)
    where
      go : (b : Bool) → is_bucket family s ≡ b → AllByRecursion IsReadBucket (map bucket_of (filter (is_bucket family) own)) → AllByRecursion IsReadBucket (map bucket_of (cond b (s ∷ filter (is_bucket family) own) (filter (is_bucket family) own)))
      go true e ih = (read_bucket kind s k h.0 e, ih)
      go false e ih = ih

  rising : (before : Option Bucket) (b : Bucket) (bs : List Bucket) → AreRising before (b ∷ bs) → some_passes (λ (c : Bucket). is_up c.le) (last_or before (b ∷ bs)) ≡ true → AllByRecursion IsReadBucket (b ∷ bs) → rise_to_infinity (b ∷ bs) ≡ true
  unfolding rise_to_infinity
  rising before b [] r last h = and_from (is_up b.le) (is_u64 b.count) last h.0.count
  rising before b (c ∷ cs) r last h =
      and_from (is_bound b.le && is_u64 b.count && is_next_bucket b c) (rise_to_infinity (c ∷ cs))
      (and_from (is_bound b.le && is_u64 b.count) (is_next_bucket b c) (and_from (is_bound b.le) (is_u64 b.count) r.0 h.0.count) (not-false (is_next_bucket b c) r.2.1))
      (rising (Some b) c cs r.2 last h.1)

  rise_of : (bs : List Bucket) → RiseToUp bs → AllByRecursion IsReadBucket bs → rise_to_infinity bs ≡ true
  rise_of [] r h = absurd (let e : false ≡ true = r.last in cc)
  rise_of (b ∷ bs) r h = rising None b bs r.rising r.last h

  formed_option : (kind : Kind) (suffix : List ℕ) (own : List Sample) → AllByRecursion (IsPart st kind family labels) own → (o : Option Number) → value_with family suffix own ≡ o → IsFormedOption o
  formed_option kind suffix own h None e = tt
  formed_option kind suffix own h (Some n) e = let s = found_value family (IsPart st kind family labels) suffix own n h e in subst IsFormedNumber s.3 s.1.formed.value

  either_formed : (a b : Option Number) → IsFormedOption a → IsFormedOption b → IsFormedOption (either_value a b)
  either_formed None b h k = k
  either_formed (Some n) b h k = h

  pub formed_sum : (kind : Kind) (own : List Sample) → AllByRecursion (IsPart st kind family labels) own → IsFormedOption (sum_of family own)
  unfolding sum_of
  formed_sum kind own h = either_formed (value_with family (codes "_sum") own) (value_with family (codes "_gsum") own)
      (formed_option kind (codes "_sum") own h (value_with family (codes "_sum") own) refl) (formed_option kind (codes "_gsum") own h (value_with family (codes "_gsum") own) refl)

  pub histogram_formed : (kind : Kind) (own : List Sample) → is_histogram kind ≡ true → AllByRecursion (IsPart st kind family labels) own → has_name labels (codes "le") ≡ false → RiseToUp (buckets_of family own)
      → IsFormedValue st.format st.treatment kind family labels (values.Buckets (buckets_of family own) (sum_of family own))
  histogram_formed kind own k h free rise =
      let each = read_buckets kind own k h in (
        k,
        rise_of (buckets_of family own) rise each,
        All-from_recursion (λ (b : Bucket). IsFormedNumber b.le) (buckets_of family own) (all-weaker IsReadBucket (λ (b : Bucket). IsFormedNumber b.le) (λ b r. r.le) (buckets_of family own) each),
        formed_sum kind own h,
        ap not free,
      )
