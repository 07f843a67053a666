-- A written histogram is complete: each group has a last bucket without bound, and a count is that bucket's.
use Rattle.std.proofs.Common.{◌≡◌, ℕ, Bool, true, false, not, ◌&&◌, ◌||◌, List, [], ◌∷◌, ◌++◌, map, filter, find, codes, Option, Some, None, refl, sym, ap, ◌∙◌}
use Rattle.std.specs.List.{list_any, list_all, flat_map, AllByRecursion, IsDistinct}
use Rattle.std.specs.Str.{bytes_eq}
use Rattle.std.proofs.lemmas.Bool.{and_parts, and_from, not-true, or_from, and_left, and_right}
use Rattle.std.proofs.lemmas.List.Elements.{recursion_from_All}
use Rattle.label_sets.specs.declared.kind.Kind.{Kind}
use Rattle.label_sets.specs.declared.kind.Kind.TheVariants.{Counter, Gauge, Histogram, GaugeHistogram, StateSet, Info, Summary, Unknown}
use Rattle.label_sets.specs.declared.label_set.LabelSet.{LabelSet}
use Rattle.label_sets.specs.Lists.{some_passes}
use Rattle.label_sets.specs.Names.{is_metric_name}
use Rattle.label_sets.specs.Labels.{has_name, label_sets_eq}
use Rattle.label_sets.proofs.Laws.{all-append, all-weaker}
use Rattle.exact_decimal.specs.declared.number.Number.{Number}
use Rattle.exact_decimal.specs.declared.number.Number.TheVariants.{Finite, Up}
use Rattle.exact_decimal.specs.Numbers.{number_of}
use Rattle.exact_decimal.specs.Order.{less, same}
use Rattle.exact_decimal.proofs.Laws.{same_itself}
use Rattle.page_model.specs.declared.format.Format.TheVariants.{OpenMetrics}
use Rattle.page_model.specs.declared.format.Treatment.TheVariants as treatments
use Rattle.page_model.specs.declared.item.Sample.{Sample}
use Rattle.page_model.specs.declared.page.Bucket.{Bucket}
use Rattle.page_model.specs.declared.page.Value.{Value}
use Rattle.page_model.specs.declared.page.Value.TheVariants as values
use Rattle.page_model.specs.declared.page.Reading.{Reading}
use Rattle.page_model.specs.Written.{Setting, open_setting}
use Rattle.page_model.proofs.Laws.{label_sets_decide}
use Rattle.page_model.specs.Owners.{Owned, kind_of, samples_of, group_of}
use Rattle.page_model.specs.Rules.{is_histogram, is_bucket, is_count, is_up, is_bound, in_one_group, threshold, buckets_of_group, infinite_bucket, is_complete_at, is_incomplete, leaves_incomplete}
use Rattle.open_writing.specs.Writing.{bare_sample, number_sample, with_number_label, bucket_sample, count_suffix, sum_suffix, total_samples, observations, value_samples, reading_samples}
use Rattle.open_writing.specs.Forms.{IsFormedNumber, is_plain_value, is_u64, is_next_bucket, rise_to_infinity, IsFormedValue, IsFormedReading, label_sets_of}
use Rattle.writing_laws.proofs.Turned.{turn, all-map, all-of, all-turn, all-flat, Pairs, any-front, some-turn, any-flat, square, any-behind}
use Rattle.writing_laws.proofs.Blocks.{GoesOn}
use Rattle.writing_laws.proofs.PutLabels.{same_group, written_threshold, without_absent}
use Rattle.writing_laws.proofs.ValuesBack.{suffix_is}
use Rattle.writing_laws.proofs.FairParts.{NoPlace, IsFair}
use Rattle.writing_laws.proofs.Fair.{no_place_of, fair_reading}
use Rattle.writing_laws.proofs.Apart.{HasTotals, totals_of, gauge_totals_of, sets_differ}

-- ---- what is found among what is kept

found : {A : Type 0} (p q r : A → Bool) (xs : List A) → list_any (λ x. p x && q x) xs ≡ true → AllByRecursion (λ x. p x ≡ true → q x ≡ true → r x ≡ true) xs → some_passes r (find q (filter p xs)) ≡ true
found p q r [] e h = absurd (let k : false ≡ true = e in cc)
found p q r (x ∷ xs) e h = go (p x) (q x) refl refl e (found p q r xs)
  where
    go : (a b : Bool) → p x ≡ a → q x ≡ b → ((a && b) || list_any (λ y. p y && q y) xs) ≡ true
        → (list_any (λ y. p y && q y) xs ≡ true → AllByRecursion (λ y. p y ≡ true → q y ≡ true → r y ≡ true) xs → some_passes r (find q (filter p xs)) ≡ true)
        → some_passes r (find q (filter p (x ∷ xs))) ≡ true
    go true true f g k ih = rw (f, g) (h.0 f g)
    go true false f g k ih = rw (f, g) (ih k h.1)
    go false b f g k ih = rw f (ih k h.1)

-- a third test that all pass
any_with : {A : Type 0} (a b c : A → Bool) (xs : List A) → list_any (λ x. a x && c x) xs ≡ true → AllByRecursion (λ x. b x ≡ true) xs → list_any (λ x. (a x && b x) && c x) xs ≡ true
any_with a b c [] e h = absurd (let k : false ≡ true = e in cc)
any_with a b c (x ∷ xs) e h = go (a x) (c x) refl refl e (any_with a b c xs)
  where
    go : (d f : Bool) → a x ≡ d → c x ≡ f → ((d && f) || list_any (λ y. a y && c y) xs) ≡ true
        → (list_any (λ y. a y && c y) xs ≡ true → AllByRecursion (λ y. b y ≡ true) xs → list_any (λ y. (a y && b y) && c y) xs ≡ true)
        → list_any (λ y. (a y && b y) && c y) (x ∷ xs) ≡ true
    go true true k l g ih = rw (k, h.0, l) refl
    go true false k l g ih = rw (k, h.0, l) (ih g h.1)
    go false f k l g ih = rw k (ih g h.1)

all_pass : {A : Type 0} (p : A → Bool) (xs : List A) → AllByRecursion (λ x. p x ≡ true) xs → list_all p xs ≡ true
all_pass p [] h = refl
all_pass p (x ∷ xs) h = and_from (p x) (list_all p xs) h.0 (all_pass p xs h.1)

-- ---- the last bucket

not_above : (n : Number) → less Up n ≡ false
unfolding less
not_above (Finite d) = refl
not_above _ = refl

not_up : (n m : Number) → less n m ≡ true → is_up n ≡ true → ⊥
not_up Up m e u = absurd (let k : false ≡ true = sym (not_above m) ∙ e in cc)
not_up _ m e u = absurd (let k : false ≡ true = u in cc)

-- a bucket without bound has the count of all
unbounded : (bs : List Bucket) → rise_to_infinity bs ≡ true → AllByRecursion (λ (b : Bucket). is_up b.le ≡ true → b.count ≡ observations bs) bs
unfolding rise_to_infinity
unbounded [] h = tt
unbounded (b ∷ []) h = (λ u. refl, tt)
unbounded (b ∷ c ∷ bs) h =
    let rest = and_parts (is_bound b.le && is_u64 b.count && is_next_bucket b c) (rise_to_infinity (c ∷ bs)) h in
    let next = and_parts (is_bound b.le && is_u64 b.count) (is_next_bucket b c) rest.0 in
    let both = and_parts (less b.le c.le) _ next.1 in
    (λ u. absurd (not_up b.le c.le both.0 u), unbounded (c ∷ bs) rest.1)

same_count : (n : ℕ) → same (number_of n) (number_of n) ≡ true
unfolding number_of
same_count n = same_itself _

module _ (limit : ℕ) (family : List ℕ) where
  -- how the page is read
  abbrev st : Setting
  st = open_setting treatments.Written limit

  bucket_is : (labels : LabelSet) (b : Bucket) → is_bucket family (bucket_sample family labels b) ≡ true
  bucket_is labels b = suffix_is family (codes "_bucket") (codes "_bucket") (with_number_label (codes "le") b.le labels) (number_of b.count)

  -- ---- one reading

  -- a bucket without bound has this count, and so has a count
  abbrev HasUp : ℕ → Sample → Type 0
  HasUp n t = is_bucket family t ≡ true → is_up (threshold t) ≡ true → t.value ≡ number_of n

  abbrev HasCount : ℕ → Sample → Type 0
  HasCount n s = is_count family s ≡ true → s.value ≡ number_of n

  -- the samples of a histogram's reading agree on how many observations there are, and it has a bucket without bound
  record IsWhole (n : ℕ) (ss : List Sample) : Type 0 where
    ups : AllByRecursion (HasUp n) ss
    counts : AllByRecursion (HasCount n) ss
    some : list_any (λ t. is_bucket family t && is_up (threshold t)) ss ≡ true

  no_up : (n : ℕ) (suffix : List ℕ) (labels : LabelSet) (m : Number) → bytes_eq suffix (codes "_bucket") ≡ false → HasUp n (bare_sample (family ++ suffix) labels m)
  no_up n suffix labels m e = λ bucket up. absurd (let k : false ≡ true = sym (suffix_is family suffix (codes "_bucket") labels m ∙ e) ∙ bucket in cc)

  no_count : (n : ℕ) (suffix : List ℕ) (labels : LabelSet) (m : Number) → bytes_eq suffix (codes "_count") ≡ false → bytes_eq suffix (codes "_gcount") ≡ false → HasCount n (bare_sample (family ++ suffix) labels m)
  no_count n suffix labels m e f = λ count.
      absurd (let other : is_count family (bare_sample (family ++ suffix) labels m) ≡ false = or_from _ _ (suffix_is family suffix (codes "_count") labels m ∙ e) (suffix_is family suffix (codes "_gcount") labels m ∙ f) in
      let k : false ≡ true = sym other ∙ count in cc)

  buckets_up : (n : ℕ) (labels : LabelSet) (bs : List Bucket) → has_name labels (codes "le") ≡ false → AllByRecursion (λ (b : Bucket). IsFormedNumber b.le) bs → AllByRecursion (λ (b : Bucket). is_up b.le ≡ true → b.count ≡ n) bs
      → AllByRecursion (HasUp n) (map (bucket_sample family labels) bs)
  buckets_up n labels [] free f h = tt
  buckets_up n labels (b ∷ bs) free f h = (λ bucket up. ap number_of (h.0 (ap is_up (sym (written_threshold family labels b free f.0)) ∙ up)), buckets_up n labels bs free f.1 h.1)

  some_up : (labels : LabelSet) (bs : List Bucket) → has_name labels (codes "le") ≡ false → AllByRecursion (λ (b : Bucket). IsFormedNumber b.le) bs → rise_to_infinity bs ≡ true
      → list_any (λ t. is_bucket family t && is_up (threshold t)) (map (bucket_sample family labels) bs) ≡ true
  unfolding rise_to_infinity
  some_up labels [] free f h = absurd (let k : false ≡ true = h in cc)
  some_up labels (b ∷ []) free f h =
      let both = and_parts (is_up b.le) (is_u64 b.count) h in
      any-front (λ t. is_bucket family t && is_up (threshold t)) (bucket_sample family labels b ∷ []) []
      (here labels b (and_from (is_bucket family (bucket_sample family labels b)) _ (bucket_is labels b) (ap is_up (written_threshold family labels b free f.0) ∙ both.0)))
    where
      here : (labels : LabelSet) (b : Bucket) → (is_bucket family (bucket_sample family labels b) && is_up (threshold (bucket_sample family labels b))) ≡ true
          → list_any (λ t. is_bucket family t && is_up (threshold t)) (bucket_sample family labels b ∷ []) ≡ true
      here labels b e = rw e refl
  some_up labels (b ∷ c ∷ bs) free f h =
      let rest = and_parts (is_bound b.le && is_u64 b.count && is_next_bucket b c) (rise_to_infinity (c ∷ bs)) h in
      any-behind (λ t. is_bucket family t && is_up (threshold t)) (bucket_sample family labels b ∷ []) (map (bucket_sample family labels) (c ∷ bs)) (some_up labels (c ∷ bs) free f.1 rest.1)

  totals_up : (kind : Kind) (labels : LabelSet) (bs : List Bucket) (sum : Option Number) → HasTotals limit family kind → AllByRecursion (HasUp (observations bs)) (total_samples kind family labels bs sum)
  totals_up kind labels bs None w = tt
  totals_up kind labels bs (Some m) w = (no_up (observations bs) (count_suffix kind) labels (number_of (observations bs)) w.count_bucket, (no_up (observations bs) (sum_suffix kind) labels m w.sum_bucket, tt))

  totals_count : (kind : Kind) (labels : LabelSet) (bs : List Bucket) (sum : Option Number) → bytes_eq (sum_suffix kind) (codes "_count") ≡ false → bytes_eq (sum_suffix kind) (codes "_gcount") ≡ false
      → AllByRecursion (HasCount (observations bs)) (total_samples kind family labels bs sum)
  totals_count kind labels bs None e f = tt
  totals_count kind labels bs (Some m) e f = (λ count. refl, (no_count (observations bs) (sum_suffix kind) labels m e f, tt))

  created_up : (n : ℕ) (labels : LabelSet) (created : Option Number) → AllByRecursion (HasUp n) (number_sample (family ++ codes "_created") labels created)
  created_up n labels None = tt
  created_up n labels (Some m) = (no_up n (codes "_created") labels m refl, tt)

  created_count : (n : ℕ) (labels : LabelSet) (created : Option Number) → AllByRecursion (HasCount n) (number_sample (family ++ codes "_created") labels created)
  created_count n labels None = tt
  created_count n labels (Some m) = (no_count n (codes "_created") labels m refl refl, tt)

  whole_histogram : (kind : Kind) (labels : LabelSet) (bs : List Bucket) (sum created : Option Number) → HasTotals limit family kind → bytes_eq (sum_suffix kind) (codes "_count") ≡ false → bytes_eq (sum_suffix kind) (codes "_gcount") ≡ false
      → has_name labels (codes "le") ≡ false → AllByRecursion (λ (b : Bucket). IsFormedNumber b.le) bs → rise_to_infinity bs ≡ true
      → IsWhole (observations bs) ((map (bucket_sample family labels) bs ++ total_samples kind family labels bs sum) ++ number_sample (family ++ codes "_created") labels created)
  whole_histogram kind labels bs sum created w e f free formed rise =
      let n = observations bs in
      let front = map (bucket_sample family labels) bs in
      let totals = total_samples kind family labels bs sum in
      let end = number_sample (family ++ codes "_created") labels created in
      record {
        ups = all-append (HasUp n) (front ++ totals) end (all-append (HasUp n) front totals (buckets_up n labels bs free formed (unbounded bs rise)) (totals_up kind labels bs sum w)) (created_up n labels created);
        counts = all-append (HasCount n) (front ++ totals) end
            (all-append (HasCount n) front totals (all-map (HasCount n) (bucket_sample family labels) bs (all-of _ (λ (b : Bucket). no_count n (codes "_bucket") (with_number_label (codes "le") b.le labels) (number_of b.count) refl refl) bs)) (totals_count kind labels bs sum e f))
            (created_count n labels created);
        some = any-front _ (front ++ totals) end (any-front _ front totals (some_up labels bs free formed rise));
      }

  -- ---- readings

  -- the samples of the reading agree on some count
  abbrev HasWhole : Kind → Reading → Type 0
  HasWhole kind r = (n : ℕ) × IsWhole n (reading_samples kind family r)

  value_whole : (kind : Kind) (labels : LabelSet) (value : Value) (created : Option Number) → is_histogram kind ≡ true → IsFormedValue OpenMetrics treatments.Written kind family labels value
      → (n : ℕ) × IsWhole n (value_samples kind family labels value ++ number_sample (family ++ codes "_created") labels created)
  unfolding value_samples is_plain_value
  value_whole Histogram labels (values.Buckets bs sum) created h f =
      (observations bs, whole_histogram Histogram labels bs sum created (totals_of limit family) refl refl (not-true _ f.4) (recursion_from_All (λ (b : Bucket). IsFormedNumber b.le) bs f.2) f.1)
  value_whole GaugeHistogram labels (values.Buckets bs sum) created h f =
      (observations bs, whole_histogram GaugeHistogram labels bs sum created (gauge_totals_of limit family) refl refl (not-true _ f.4) (recursion_from_All (λ (b : Bucket). IsFormedNumber b.le) bs f.2) f.1)
  value_whole Histogram labels (values.Plain n) created h f = absurd (let k : false ≡ true = f.1 in cc)
  value_whole GaugeHistogram labels (values.Plain n) created h f = absurd (let k : false ≡ true = f.1 in cc)
  value_whole Histogram labels (values.Quantiles qs count sum) created h f = absurd (let k : false ≡ true = f.0 in cc)
  value_whole GaugeHistogram labels (values.Quantiles qs count sum) created h f = absurd (let k : false ≡ true = f.0 in cc)
  value_whole Counter labels value created h f = absurd (let k : false ≡ true = h in cc)
  value_whole Gauge labels value created h f = absurd (let k : false ≡ true = h in cc)
  value_whole StateSet labels value created h f = absurd (let k : false ≡ true = h in cc)
  value_whole Info labels value created h f = absurd (let k : false ≡ true = h in cc)
  value_whole Summary labels value created h f = absurd (let k : false ≡ true = h in cc)
  value_whole Unknown labels value created h f = absurd (let k : false ≡ true = h in cc)

  -- the group of a histogram's reading is its labels
  own_group : (kind : Kind) (labels : LabelSet) → is_histogram kind ≡ true → NoPlace kind labels → group_of kind family labels ≡ labels
  own_group Histogram labels h free = without_absent (codes "le") labels free
  own_group GaugeHistogram labels h free = without_absent (codes "le") labels free
  own_group _ labels h free = absurd (let k : false ≡ true = h in cc)

  module _ (kind : Kind) (unit : List ℕ) (name : is_metric_name family ≡ true) (histogram : is_histogram kind ≡ true) where
    -- the form of a reading of this family
    abbrev Formed : Reading → Type 0
    Formed r = IsFormedReading OpenMetrics treatments.Written kind family unit r

    -- the group of a reading
    abbrev group : Reading → LabelSet
    group r = group_of kind family r.key.labels

    -- of two samples of one group the second, where it is a count, is that of the first, where that is a bucket without bound
    abbrev Agrees : Sample → Sample → Type 0
    Agrees t s = is_bucket family t ≡ true → is_up (threshold t) ≡ true → (not (is_count family s) || same s.value t.value) ≡ true

    -- so for samples of two readings of one group
    abbrev AllAgree : Reading → Reading → Type 0
    AllAgree r q = group r ≡ group q → AllByRecursion (λ t. AllByRecursion (Agrees t) (reading_samples kind family q)) (reading_samples kind family r)

    agree : (n : ℕ) (t s : Sample) → HasUp n t → HasCount n s → Agrees t s
    agree n t s h k = λ bucket up. go (is_count family s) refl (h bucket up)
      where
        go : (b : Bool) → is_count family s ≡ b → t.value ≡ number_of n → (not b || same s.value t.value) ≡ true
        go false e v = refl
        go true e v = ap (λ x. same x t.value) (k e) ∙ ap (same (number_of n)) v ∙ same_count n

    own_agree : (r : Reading) → HasWhole kind r → AllAgree r r
    own_agree r w = λ e. all-weaker (HasUp w.0) (λ t. AllByRecursion (Agrees t) (reading_samples kind family r))
        (λ t h. all-weaker (HasCount w.0) (Agrees t) (λ s k. agree w.0 t s h k) (reading_samples kind family r) w.1.counts) (reading_samples kind family r) w.1.ups

    other_agree : (r q : Reading) → Formed r → Formed q → label_sets_eq r.key.labels q.key.labels ≡ false → AllAgree r q × AllAgree q r
    other_agree r q f g e =
        let mine = own_group kind r.key.labels histogram (no_place_of limit family kind r.key.labels r.value f.value) in
        let yours = own_group kind q.key.labels histogram (no_place_of limit family kind q.key.labels q.value g.value) in
        let ne = sets_differ limit family r.key.labels q.key.labels e in
        (λ same. absurd (ne (sym mine ∙ same ∙ yours)), λ same. absurd (ne (sym (sym yours ∙ same ∙ mine))))

    pairs_agree : (rs : List Reading) → AllByRecursion Formed rs → IsDistinct label_sets_eq (label_sets_of rs) → Pairs (λ r q. AllAgree r q × AllAgree q r) rs
    unfolding IsDistinct
    pairs_agree [] f d = tt
    pairs_agree (r ∷ rs) f d = (firsts rs f.1 d.0, pairs_agree rs f.1 d.1)
      where
        firsts : (qs : List Reading) → AllByRecursion Formed qs → AllByRecursion (λ y. label_sets_eq r.key.labels y ≡ false) (label_sets_of qs) → AllByRecursion (λ q. AllAgree r q × AllAgree q r) qs
        firsts [] g e = tt
        firsts (q ∷ qs) g e = (other_agree r q f.0 g.0 e.0, firsts qs g.1 e.1)

    wholes : (rs : List Reading) → AllByRecursion Formed rs → AllByRecursion (HasWhole kind) rs
    unfolding reading_samples
    wholes [] f = tt
    wholes (r ∷ rs) f = (value_whole kind r.key.labels r.value r.created histogram f.0.value, wholes rs f.1)

    -- all samples of the family
    abbrev all : List Reading → List Sample
    all rs = flat_map (reading_samples kind family) rs

    -- of samples of the readings those of one group agree
    grouped : (r q : Reading) → Formed r → Formed q → AllAgree r q
        → AllByRecursion (λ t. AllByRecursion (λ s. (is_bucket family t && in_one_group st kind family t s) ≡ true → is_up (threshold t) ≡ true → (not (is_count family s) || same s.value t.value) ≡ true) (reading_samples kind family q)) (reading_samples kind family r)
    grouped r q f g h =
        outer (reading_samples kind family r) (reading_samples kind family q) (fair_reading limit family kind unit r name f) (fair_reading limit family kind unit q name g) h
      where
        inner : (t : Sample) (ss : List Sample) → IsFair limit kind family r.key.labels t → AllByRecursion (IsFair limit kind family q.key.labels) ss → (group r ≡ group q → AllByRecursion (Agrees t) ss)
            → AllByRecursion (λ s. (is_bucket family t && in_one_group st kind family t s) ≡ true → is_up (threshold t) ≡ true → (not (is_count family s) || same s.value t.value) ≡ true) ss
        inner t [] ft fs a = tt
        inner t (s ∷ ss) ft fs a = (
          λ both up.
              let parts = and_parts (is_bucket family t) (in_one_group st kind family t s) both in
              let one : group r ≡ group q = sym ft.group ∙ (label_sets_decide (group_of kind family t.labels) (group_of kind family s.labels)).0 parts.1 ∙ fs.0.group in
              (a one).0 parts.0 up,
          inner t ss ft fs.1 (λ e. (a e).1),
        )

        outer : (ts ss : List Sample) → AllByRecursion (IsFair limit kind family r.key.labels) ts → AllByRecursion (IsFair limit kind family q.key.labels) ss → (group r ≡ group q → AllByRecursion (λ t. AllByRecursion (Agrees t) ss) ts)
            → AllByRecursion (λ t. AllByRecursion (λ s. (is_bucket family t && in_one_group st kind family t s) ≡ true → is_up (threshold t) ≡ true → (not (is_count family s) || same s.value t.value) ≡ true) ss) ts
        outer [] ss ft fs a = tt
        outer (t ∷ ts) ss ft fs a = (inner t ss ft.0 fs (λ e. (a e).0), outer ts ss ft.1 fs (λ e. (a e).1))

    -- the square of readings, as one of samples
    all_grouped : (rs qs : List Reading) → AllByRecursion Formed rs → AllByRecursion Formed qs → AllByRecursion (λ r. AllByRecursion (AllAgree r) qs) rs
        → AllByRecursion (λ t. AllByRecursion (λ s. (is_bucket family t && in_one_group st kind family t s) ≡ true → is_up (threshold t) ≡ true → (not (is_count family s) || same s.value t.value) ≡ true) (all qs)) (all rs)
    all_grouped rs qs f g h = all-flat _ (reading_samples kind family) rs (rows rs f h)
      where
        joined : (r : Reading) (qs : List Reading) → Formed r → AllByRecursion Formed qs → AllByRecursion (AllAgree r) qs
            → AllByRecursion (λ t. AllByRecursion (λ s. (is_bucket family t && in_one_group st kind family t s) ≡ true → is_up (threshold t) ≡ true → (not (is_count family s) || same s.value t.value) ≡ true) (all qs)) (reading_samples kind family r)
        joined r [] f g a = all-of _ (λ t. tt) (reading_samples kind family r)
        joined r (q ∷ qs) f g a = both (reading_samples kind family r) (grouped r q f g.0 a.0) (joined r qs f g.1 a.1)
          where
            both : (ts : List Sample) → AllByRecursion (λ t. AllByRecursion (λ s. (is_bucket family t && in_one_group st kind family t s) ≡ true → is_up (threshold t) ≡ true → (not (is_count family s) || same s.value t.value) ≡ true) (reading_samples kind family q)) ts
                → AllByRecursion (λ t. AllByRecursion (λ s. (is_bucket family t && in_one_group st kind family t s) ≡ true → is_up (threshold t) ≡ true → (not (is_count family s) || same s.value t.value) ≡ true) (all qs)) ts
                → AllByRecursion (λ t. AllByRecursion (λ s. (is_bucket family t && in_one_group st kind family t s) ≡ true → is_up (threshold t) ≡ true → (not (is_count family s) || same s.value t.value) ≡ true) (all (q ∷ qs))) ts
            both [] h k = tt
            both (t ∷ ts) h k = (all-append _ (reading_samples kind family q) (all qs) h.0 k.0, both ts h.1 k.1)

        rows : (rs : List Reading) → AllByRecursion Formed rs → AllByRecursion (λ r. AllByRecursion (AllAgree r) qs) rs
            → AllByRecursion (λ r. AllByRecursion (λ t. AllByRecursion (λ s. (is_bucket family t && in_one_group st kind family t s) ≡ true → is_up (threshold t) ≡ true → (not (is_count family s) || same s.value t.value) ≡ true) (all qs)) (reading_samples kind family r)) rs
        rows [] f h = tt
        rows (r ∷ rs) f h = (joined r qs f.0 g h.0, rows rs f.1 h.1)

    -- a sample's group has a bucket without bound
    abbrev HasBound : List Sample → Sample → Type 0
    HasBound ss s = list_any (λ t. (is_bucket family t && in_one_group st kind family t s) && is_up (threshold t)) ss ≡ true

    own_bound : (q : Reading) → Formed q → HasWhole kind q → AllByRecursion (HasBound (reading_samples kind family q)) (reading_samples kind family q)
    own_bound q f w =
        let fair = fair_reading limit family kind unit q name f in
        all-weaker (IsFair limit kind family q.key.labels) (HasBound (reading_samples kind family q))
        (λ s g. any_with (is_bucket family) (λ t. in_one_group st kind family t s) (λ t. is_up (threshold t)) (reading_samples kind family q) w.1.some
        (all-weaker (IsFair limit kind family q.key.labels) (λ t. in_one_group st kind family t s ≡ true) (λ t h. same_group (group_of kind family t.labels) (group_of kind family s.labels) (h.group ∙ sym g.group)) (reading_samples kind family q) fair))
        (reading_samples kind family q) fair

    bounds : (rs qs : List Reading) → AllByRecursion Formed qs → AllByRecursion (HasWhole kind) qs → AllByRecursion (λ q. (p : Sample → Bool) → list_any p (reading_samples kind family q) ≡ true → list_any p (all rs) ≡ true) qs
        → AllByRecursion (HasBound (all rs)) (all qs)
    bounds rs [] f w h = tt
    bounds rs (q ∷ qs) f w h =
        all-append (HasBound (all rs)) (reading_samples kind family q) (all qs)
        (all-weaker (HasBound (reading_samples kind family q)) (HasBound (all rs)) (λ s e. h.0 (λ t. (is_bucket family t && in_one_group st kind family t s) && is_up (threshold t)) e) (reading_samples kind family q) (own_bound q f.0 w.0))
        (bounds rs qs f.1 w.1 h.1)

    -- the two, with samples in the other order
    abbrev Said : Sample → Sample → Type 0
    Said s t = (is_bucket family t && in_one_group st kind family t s) ≡ true → is_up (threshold t) ≡ true → (not (is_count family s) || same s.value t.value) ≡ true

    flipped : (ts ss : List Sample) → AllByRecursion (λ t. AllByRecursion (λ s. Said s t) ss) ts → AllByRecursion (λ s. AllByRecursion (Said s) ts) ss
    flipped [] ss h = all-of _ (λ s. tt) ss
    flipped (t ∷ ts) ss h = both ss h.0 (flipped ts ss h.1)
      where
        both : (ss : List Sample) → AllByRecursion (λ s. Said s t) ss → AllByRecursion (λ s. AllByRecursion (Said s) ts) ss → AllByRecursion (λ s. AllByRecursion (Said s) (t ∷ ts)) ss
        both [] h k = tt
        both (s ∷ ss) h k = ((h.0, k.0), both ss h.1 k.1)

    complete_all : (rs : List Reading) → AllByRecursion Formed rs → IsDistinct label_sets_eq (label_sets_of rs)
        → list_all (is_complete_at st kind family (turn (all rs) [])) (turn (all rs) []) ≡ true
    unfolding is_complete_at infinite_bucket buckets_of_group
    complete_all rs f d =
        let ws = wholes rs f in
        let agreed = square AllAgree rs (pairs_agree rs f d) (own rs ws) in
        let said = flipped (all rs) (all rs) (all_grouped rs rs f f agreed) in
        let bounded = bounds rs rs f ws (any-flat (reading_samples kind family) rs) in
        all_pass _ (turn (all rs) []) (all-turn _ (all rs) [] (each (all rs) bounded said) tt)
      where
        own : (rs : List Reading) → AllByRecursion (HasWhole kind) rs → AllByRecursion (λ r. AllAgree r r) rs
        own [] w = tt
        own (r ∷ rs) w = (own_agree r w.0, own rs w.1)

        each : (ss : List Sample) → AllByRecursion (HasBound (all rs)) ss → AllByRecursion (λ s. AllByRecursion (Said s) (all rs)) ss
            → AllByRecursion (λ s. some_passes (λ (b : Sample). not (is_count family s) || same s.value b.value) (find (λ t. is_up (threshold t)) (filter (λ t. is_bucket family t && in_one_group st kind family t s) (turn (all rs) []))) ≡ true) ss
        each [] b h = tt
        each (s ∷ ss) b h = (
          found (λ t. is_bucket family t && in_one_group st kind family t s) (λ t. is_up (threshold t)) (λ (b : Sample). not (is_count family s) || same s.value b.value) (turn (all rs) [])
              (some-turn _ (all rs) [] b.0) (all-turn (Said s) (all rs) [] h.0 tt),
          each ss b.1 h.1,
        )

  -- behind all samples of a family no histogram is left incomplete
  pub leaves_whole : (kind : Kind) (unit : List ℕ) (rs : List Reading) (above : List Owned) → is_metric_name family ≡ true → AllByRecursion (λ r. IsFormedReading OpenMetrics treatments.Written kind family unit r) rs
      → IsDistinct label_sets_eq (label_sets_of rs) → GoesOn family kind above → samples_of above family ≡ turn (flat_map (reading_samples kind family) rs) [] → leaves_incomplete st above None ≡ false
  unfolding leaves_incomplete is_incomplete
  leaves_whole kind unit rs above name f d g samples =
      let here : List Owned = record { family = family; item = g.nearest } ∷ g.others in
      let kind_here : kind_of here family ≡ kind = ap (λ a. kind_of a family) (sym g.is) ∙ g.kind_is in
      let samples_are : samples_of here family ≡ turn (flat_map (reading_samples kind family) rs) [] = ap (λ a. samples_of a family) (sym g.is) ∙ samples in
      ap (λ a. leaves_incomplete st a None) g.is ∙ rw (kind_here, samples_are) (whole (is_histogram kind) refl)
    where
      whole : (b : Bool) → is_histogram kind ≡ b → (is_histogram kind && not (list_all (is_complete_at st kind family (turn (flat_map (reading_samples kind family) rs) [])) (turn (flat_map (reading_samples kind family) rs) []))) ≡ false
      whole false e = and_left _ _ e
      whole true e = and_right _ _ (ap not (complete_all kind unit name e rs f d))
