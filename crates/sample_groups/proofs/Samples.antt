-- What one sample is to its group: the suffix of its name, and the part that it is.
use Rattle.std.proofs.Common.{◌≡◌, ℕ, Bool, true, false, not, ◌&&◌, ◌||◌, List, [], ◌∷◌, ◌++◌, map, filter, filter_map, codes, length, drop, Option, Some, None, unwrap_or, is_some, refl, sym, ap, subst, ◌∙◌, inl, inr, ◌⊎◌, if◌then◌else◌}
use Rattle.std.specs.Prelude.{⊤}
use Rattle.std.proofs.lemmas.Bool.{and_parts, not-false, or_cases, or_parts}
use Rattle.std.proofs.lemmas.List.{drop_at}
use Rattle.std.proofs.lemmas.Simd.{map-map}
use Rattle.std.specs.List.{list_any}
use Rattle.std.specs.Str.{bytes_eq}
use Rattle.std.specs.Cmp.Lexicographic.{bytes_decides}
use Rattle.label_sets.specs.declared.kind.Kind.{Kind}
use Rattle.label_sets.specs.declared.kind.Kind.TheVariants.{Counter, Histogram, GaugeHistogram, Summary}
use Rattle.label_sets.specs.declared.label_set.LabelSet.{LabelSet}
use Rattle.label_sets.specs.Labels.{label_sets_eq}
use Rattle.label_sets.specs.Lists.{◌>>=◌}
use Rattle.exact_decimal.specs.Decimals.{DecimalValue}
use Rattle.exact_decimal.specs.declared.number.Number.{Number}
use Rattle.exact_decimal.specs.declared.number.Number.TheVariants.{Finite}
use Rattle.exact_decimal.specs.Order.{whole, is_finite}
use Rattle.page_model.specs.declared.format.Format.{Format}
use Rattle.page_model.specs.declared.format.Format.TheVariants.{Text, OpenMetrics}
use Rattle.page_model.specs.declared.item.Sample.{Sample}
use Rattle.page_model.specs.declared.page.Quantile.{Quantile}
use Rattle.page_model.specs.Written.{Setting}
use Rattle.page_model.specs.Suffixes.{suffixes, is_sample_name, suffix_of}
use Rattle.page_model.specs.Rules.{is_open_metrics, is_histogram, has_suffix, is_bucket, is_count, may_have_exemplar, sample_group, quantile_at, is_whole, has_wrong_suffix, has_forbidden_value, has_bad_value, has_bad_threshold}
use Rattle.page_model.specs.Readings.{bucket_of, placed_quantile, quantile_of, is_measured, stamp_nanos, within_time}
use Rattle.page_model.proofs.Laws.{Member}
use Rattle.sample_groups.specs.Members.{Member as GroupMember}
use Rattle.sample_groups.specs.declared.part.Part.{Part}
use Rattle.sample_groups.specs.declared.part.Part.TheVariants as parts
use Rattle.sample_groups.specs.Parts.{is_grouped, quantile_part, part_of, stamped_time, member_of, entry_of}
use Rattle.sample_groups.specs.Groups.{bucket_in, quantile_in, sum_in, count_in, total_in, created_in, is_measure, bears_exemplar, parts_of, members_in, parts_in}
use Rattle.sample_groups.specs.Sound.{AreSound}
use Rattle.sample_groups.proofs.KindCases.{of_histograms, of_grouped}
use Rattle.sample_groups.proofs.Members.{when, filter-map, filter_map-map, filter_map-filter}
use Rattle.sample_groups.proofs.Steps.{labels_of}

-- ---- a sample that breaks no rule of its own

-- its name, its value and its label are those that the kind allows
pub record IsFair (st : Setting) (kind : Kind) (family : List ℕ) (s : Sample) : Type 0 where
  pub named : has_wrong_suffix st kind family s ≡ false
  pub valued : has_bad_value st.format kind family s ≡ false
  pub placed : has_bad_threshold kind family s ≡ false

-- each of sound samples is fair
pub fair_at : (above : List Sample) (st : Setting) (kind : Kind) (family : List ℕ) → AreSound st kind family above → (s : Sample) → Member s above → IsFair st kind family s
fair_at [] st kind family sound s m = absurd m
fair_at (t ∷ above) st kind family sound s (inl e) = subst (IsFair st kind family) (sym e) (record { named = sound.0.named; valued = sound.0.valued; placed = sound.0.placed })
fair_at (t ∷ above) st kind family sound s (inr m) = fair_at above st kind family sound.1 s m

-- ---- the suffix of its name

-- a created time stands in OpenMetrics alone
abbrev pub may_have : Format → List ℕ → Bool
may_have f suffix = is_open_metrics f || not (bytes_eq suffix (codes "_created"))

-- one of three is among these four, in their order there
among_four : (a b c d : Bool) → (a || (b || (c || false))) ≡ true → (a || (c || (b || (d || false)))) ≡ true
among_four true b c d h = refl
among_four false true true d h = refl
among_four false true false d h = refl
among_four false false true d h = refl
among_four false false false d h = absurd (let no : false ≡ true = h in cc)

-- a suffix that a grouped kind has in a format is one that it has in OpenMetrics, and a created time only there
in_open_metrics : (f : Format) (kind : Kind) (p : List ℕ → Bool) → is_grouped f kind ≡ true → list_any p (suffixes f kind) ≡ true → list_any (λ x. may_have f x && p x) (suffixes OpenMetrics kind) ≡ true
in_open_metrics OpenMetrics kind p grouped h = h
in_open_metrics Text kind p grouped h = of_grouped Text (λ k. list_any p (suffixes Text k) ≡ true → list_any (λ x. may_have Text x && p x) (suffixes OpenMetrics k) ≡ true) (record {
  histogram = among_four (p (codes "_bucket")) (p (codes "_sum")) (p (codes "_count")) false;
  gauge = λ e. e;
  summary = among_four (p []) (p (codes "_sum")) (p (codes "_count")) false;
  counter = λ is. absurd (let no : false ≡ true = is in cc);
}) kind grouped h

-- what is so for each of some suffixes
abbrev pub Each : (List ℕ → Type 0) → List (List ℕ) → Type 0
Each P [] = ⊤
Each P (x ∷ xs) = P x × Each P xs

-- the name has this suffix behind the family's
pub record HasSuffix (f : Format) (family name suffix : List ℕ) : Type 0 where
  pub behind : suffix_of family name ≡ suffix
  pub name_is : name ≡ family ++ suffix
  pub may : may_have f suffix ≡ true

-- what each of the suffixes gives, where the name has it, is so
one_of : (f : Format) (family name : List ℕ) (G : Type 0) (xs : List (List ℕ)) → list_any (λ x. may_have f x && bytes_eq name (family ++ x)) xs ≡ true → Each (λ x. HasSuffix f family name x → G) xs → G
one_of f family name G [] h each = absurd (let no : false ≡ true = h in cc)
one_of f family name G (x ∷ xs) h each =
    by (or_cases (may_have f x && bytes_eq name (family ++ x)) (list_any (λ y. may_have f y && bytes_eq name (family ++ y)) xs) h) (λ e. one_of f family name G xs e each.1)
  where
    by : ((may_have f x && bytes_eq name (family ++ x)) ≡ true) ⊎ (list_any (λ y. may_have f y && bytes_eq name (family ++ y)) xs ≡ true) → (list_any (λ y. may_have f y && bytes_eq name (family ++ y)) xs ≡ true → G) → G
    by (inl e) more =
        let both = and_parts (may_have f x) (bytes_eq name (family ++ x)) e in
        let is : name ≡ family ++ x = (bytes_decides name (family ++ x)).0 both.1 in
        each.0 (record { behind = ap (drop (length family)) is ∙ drop_at family x (length family) refl; name_is = is; may = both.0 })
    by (inr e) more = more e

module _ (st : Setting) (kind : Kind) (family : List ℕ) (s : Sample) (grouped : is_grouped st.format kind ≡ true) (named : has_wrong_suffix st kind family s ≡ false) where
  -- what each suffix of the kind gives, where the sample's name has it, is so
  pub by_name : (G : Type 0) → Each (λ x. HasSuffix st.format family s.name x → G) (suffixes OpenMetrics kind) → G
  unfolding has_wrong_suffix
  by_name G each = one_of st.format family s.name G (suffixes OpenMetrics kind)
      (in_open_metrics st.format kind (λ x. bytes_eq s.name (family ++ x)) grouped (not-false (is_sample_name st.format kind family s.name) named)) each

  -- what is so for each suffix of the kind is so for the sample's
  pub by_suffix : (P : List ℕ → Type 0) → Each P (suffixes OpenMetrics kind) → P (suffix_of family s.name)
  by_suffix P each = by_name (P (suffix_of family s.name)) (had (suffixes OpenMetrics kind) each)
    where
      had : (xs : List (List ℕ)) → Each P xs → Each (λ x. HasSuffix st.format family s.name x → P (suffix_of family s.name)) xs
      had [] each = tt
      had (x ∷ xs) each = (λ h. subst P (sym h.behind) each.0, had xs each.1)

-- a name has one suffix
apart : (x a b : List ℕ) → bytes_eq a b ≡ false → bytes_eq x a ≡ true → bytes_eq x b ≡ false
apart x a b f e = ap (λ y. bytes_eq y b) ((bytes_decides x a).0 e) ∙ f

-- ---- the part that it is

-- a quantile, a count or a sum
abbrev pub is_measured_part : Part → Bool
is_measured_part p = is_some (quantile_in p) || is_some (count_in p) || is_some (sum_in p)

-- the count of a bucket or a count
abbrev pub count_of : Sample → ℕ
count_of s = unwrap_or (whole s.value) 0

-- the part by the suffix, where it is none of buckets, counts and quantiles
abbrev rest_by : List ℕ → Sample → Part
rest_by x s =
    if bytes_eq x (codes "_total") then parts.Total s.value
    else if bytes_eq x (codes "_created") then parts.Created s.value
    else parts.Sum s.value

-- the part by the suffix
abbrev pub part_by : List ℕ → Sample → Part
part_by x s =
    if bytes_eq x (codes "_bucket") then parts.Bucket (bucket_of s)
    else if bytes_eq x (codes "_count") || bytes_eq x (codes "_gcount") then parts.Count (count_of s)
    else if bytes_eq x [] then quantile_part (quantile_of s) s.value
    else rest_by x s

pub part_is : (family : List ℕ) (s : Sample) → part_of family s ≡ part_by (suffix_of family s.name) s
unfolding part_of
part_is family s = refl

module _ (family : List ℕ) (s : Sample) where
  -- such a part has none of what the others have
  rest_none : {B : Type 0} (f : Part → Option B) (t c : Bool) → f (parts.Total s.value) ≡ None → f (parts.Created s.value) ≡ None → f (parts.Sum s.value) ≡ None
      → f (if t then parts.Total s.value else if c then parts.Created s.value else parts.Sum s.value) ≡ None
  rest_none f true c total created sum = total
  rest_none f false true total created sum = created
  rest_none f false false total created sum = sum

  -- it is a bucket where its suffix is that of buckets
  pub bucket_part : bucket_in (part_of family s) ≡ when (is_bucket family s) (Some (bucket_of s))
  unfolding part_of
  bucket_part = by (is_bucket family s) (is_count family s) (has_suffix family [] s) (quantile_of s) (rest_by (suffix_of family s.name) s)
      (rest_none bucket_in (has_suffix family (codes "_total") s) (has_suffix family (codes "_created") s) refl refl refl)
    where
      by : (b c d : Bool) (o : Option Quantile) (rest : Part) → bucket_in rest ≡ None → bucket_in (if b then parts.Bucket (bucket_of s) else if c then parts.Count (count_of s) else if d then quantile_part o s.value else rest) ≡ when b (Some (bucket_of s))
      by true c d o rest none = refl
      by false true d o rest none = refl
      by false false true None rest none = refl
      by false false true (Some q) rest none = refl
      by false false false o rest none = none

  -- it is a count where its suffix is one of counts
  pub count_part : count_in (part_of family s) ≡ when (is_count family s) (Some (count_of s))
  unfolding part_of
  count_part = by (is_bucket family s) (is_count family s) (has_suffix family [] s) (quantile_of s) (rest_by (suffix_of family s.name) s) (λ e. bucket_no_count (suffix_of family s.name) e)
      (rest_none count_in (has_suffix family (codes "_total") s) (has_suffix family (codes "_created") s) refl refl refl)
    where
      bucket_no_count : (x : List ℕ) → bytes_eq x (codes "_bucket") ≡ true → (bytes_eq x (codes "_count") || bytes_eq x (codes "_gcount")) ≡ false
      bucket_no_count x e = rw (apart x (codes "_bucket") (codes "_count") refl e) (apart x (codes "_bucket") (codes "_gcount") refl e)

      by : (b c d : Bool) (o : Option Quantile) (rest : Part) → (b ≡ true → c ≡ false) → count_in rest ≡ None
          → count_in (if b then parts.Bucket (bucket_of s) else if c then parts.Count (count_of s) else if d then quantile_part o s.value else rest) ≡ when c (Some (count_of s))
      by true true d o rest f none = absurd (let g = f refl in cc)
      by true false d o rest f none = refl
      by false true d o rest f none = refl
      by false false true None rest f none = refl
      by false false true (Some q) rest f none = refl
      by false false false o rest f none = none

  -- it is a quantile where its name is the family's own
  pub quantile_part_is : quantile_in (part_of family s) ≡ when (has_suffix family [] s) (quantile_of s)
  unfolding part_of
  quantile_part_is = by (is_bucket family s) (is_count family s) (has_suffix family [] s) (quantile_of s) (rest_by (suffix_of family s.name) s)
      (λ e. apart (suffix_of family s.name) [] (codes "_bucket") refl e) (λ e. own_no_count (suffix_of family s.name) e)
      (rest_none quantile_in (has_suffix family (codes "_total") s) (has_suffix family (codes "_created") s) refl refl refl)
    where
      own_no_count : (x : List ℕ) → bytes_eq x [] ≡ true → (bytes_eq x (codes "_count") || bytes_eq x (codes "_gcount")) ≡ false
      own_no_count x e = rw (apart x [] (codes "_count") refl e) (apart x [] (codes "_gcount") refl e)

      by : (b c d : Bool) (o : Option Quantile) (rest : Part) → (d ≡ true → b ≡ false) → (d ≡ true → c ≡ false) → quantile_in rest ≡ None
          → quantile_in (if b then parts.Bucket (bucket_of s) else if c then parts.Count (count_of s) else if d then quantile_part o s.value else rest) ≡ when d o
      by true c true o rest f g none = absurd (let h = f refl in cc)
      by true c false o rest f g none = refl
      by false true true o rest f g none = absurd (let h = g refl in cc)
      by false true false o rest f g none = refl
      by false false true None rest f g none = refl
      by false false true (Some q) rest f g none = refl
      by false false false o rest f g none = none

  -- with the family's own name it is a quantile, or a sum where it has no place
  pub own_part : has_suffix family [] s ≡ true → part_of family s ≡ quantile_part (quantile_of s) s.value
  own_part e = part_is family s ∙ ap (λ x. part_by x s) ((bytes_decides (suffix_of family s.name) []).0 e)

-- ---- its value

has_whole : (v : Number) → is_whole v ≡ true → whole v ≡ Some (unwrap_or (whole v) 0)
has_whole v h = by (whole v) h
  where
    by : (o : Option ℕ) → is_some o ≡ true → o ≡ Some (unwrap_or o 0)
    by None e = absurd cc
    by (Some n) e = refl

forbids_none : (b c : Bool) → (b && not c) ≡ false → b ≡ true → c ≡ true
forbids_none true true h e = refl
forbids_none true false h e = absurd cc
forbids_none false c h e = absurd cc

-- a bucket and a count of a histogram have whole numbers
pub whole_in_histogram : (kind : Kind) (st : Setting) (family : List ℕ) (s : Sample) → is_histogram kind ≡ true → IsFair st kind family s → (is_bucket family s || is_count family s) ≡ true → whole s.value ≡ Some (count_of s)
unfolding has_bad_value has_forbidden_value
whole_in_histogram kind st family s histogram fair e =
    has_whole s.value (forbids_none (is_bucket family s || is_count family s) (is_whole s.value) (of_histograms (λ k. has_bad_value st.format k family s ≡ false → ((is_bucket family s || is_count family s) && not (is_whole s.value)) ≡ false)
    (λ valued. (or_parts (has_forbidden_value Histogram family s) _ valued).0) (λ valued. (or_parts (has_forbidden_value GaugeHistogram family s) _ valued).0) kind histogram fair.valued) e)

-- a count of a summary has one
pub whole_in_summary : (st : Setting) (family : List ℕ) (s : Sample) → IsFair st Summary family s → is_count family s ≡ true → whole s.value ≡ Some (count_of s)
unfolding has_bad_value has_forbidden_value
whole_in_summary st family s fair e = has_whole s.value (forbids_none (is_count family s) (is_whole s.value) (or_parts (has_forbidden_value Summary family s) _ fair.valued).0 e)

-- ---- a summary's quantile

finite_number : (v : Number) → not (is_finite v) ≡ false → (d : DecimalValue) × (v ≡ Finite d)
finite_number (Finite d) h = (d, refl)
finite_number _ h = absurd cc

-- a sample with the family's own name has a place
pub place_of : (st : Setting) (family : List ℕ) (s : Sample) → IsFair st Summary family s → has_suffix family [] s ≡ true → (d : DecimalValue) × (quantile_at s ≡ Finite d)
unfolding has_bad_threshold
place_of st family s fair e = finite_number (quantile_at s) (rw e at fair.placed)

-- ---- the names of each kind

-- a quantile or a sum is no created time
own_created : (o : Option Quantile) (v : Number) → created_in (quantile_part o v) ≡ None
own_created None v = refl
own_created (Some q) v = refl

module _ (st : Setting) (family : List ℕ) (s : Sample) where
  -- a histogram's sample is no quantile, and its sum has this suffix
  pub histogram_own : IsFair st Histogram family s → has_suffix family [] s ≡ false
  histogram_own fair = by_suffix st Histogram family s refl fair.named (λ x. bytes_eq x [] ≡ false) (refl, (refl, (refl, (refl, tt))))

  pub histogram_gsum : IsFair st Histogram family s → has_suffix family (codes "_gsum") s ≡ false
  histogram_gsum fair = by_suffix st Histogram family s refl fair.named (λ x. bytes_eq x (codes "_gsum") ≡ false) (refl, (refl, (refl, (refl, tt))))

  pub histogram_sum : IsFair st Histogram family s → sum_in (part_of family s) ≡ when (has_suffix family (codes "_sum") s) (Some s.value)
  histogram_sum fair = ap sum_in (part_is family s) ∙ by_suffix st Histogram family s refl fair.named (λ x. sum_in (part_by x s) ≡ when (bytes_eq x (codes "_sum")) (Some s.value)) (refl, (refl, (refl, (refl, tt))))

  -- the same of a gauge histogram's
  pub gauge_own : IsFair st GaugeHistogram family s → has_suffix family [] s ≡ false
  gauge_own fair = by_suffix st GaugeHistogram family s refl fair.named (λ x. bytes_eq x [] ≡ false) (refl, (refl, (refl, tt)))

  pub gauge_no_sum : IsFair st GaugeHistogram family s → has_suffix family (codes "_sum") s ≡ false
  gauge_no_sum fair = by_suffix st GaugeHistogram family s refl fair.named (λ x. bytes_eq x (codes "_sum") ≡ false) (refl, (refl, (refl, tt)))

  pub gauge_sum : IsFair st GaugeHistogram family s → sum_in (part_of family s) ≡ when (has_suffix family (codes "_gsum") s) (Some s.value)
  gauge_sum fair = ap sum_in (part_is family s) ∙ by_suffix st GaugeHistogram family s refl fair.named (λ x. sum_in (part_by x s) ≡ when (bytes_eq x (codes "_gsum")) (Some s.value)) (refl, (refl, (refl, tt)))

  -- a summary's sample is no bucket, and its count and its sum have these suffixes
  pub summary_bucket : IsFair st Summary family s → is_bucket family s ≡ false
  summary_bucket fair = by_suffix st Summary family s refl fair.named (λ x. bytes_eq x (codes "_bucket") ≡ false) (refl, (refl, (refl, (refl, tt))))

  pub summary_gsum : IsFair st Summary family s → has_suffix family (codes "_gsum") s ≡ false
  summary_gsum fair = by_suffix st Summary family s refl fair.named (λ x. bytes_eq x (codes "_gsum") ≡ false) (refl, (refl, (refl, (refl, tt))))

  pub summary_count : IsFair st Summary family s → is_count family s ≡ has_suffix family (codes "_count") s
  summary_count fair = by_suffix st Summary family s refl fair.named (λ x. (bytes_eq x (codes "_count") || bytes_eq x (codes "_gcount")) ≡ bytes_eq x (codes "_count")) (refl, (refl, (refl, (refl, tt))))

  -- what is so of each part that a summary's sample may be, by its suffix
  summary_by : (P : List ℕ → Part → Type 0) → IsFair st Summary family s → ((q : Quantile) → P [] (parts.Quantile q)) → P (codes "_count") (parts.Count (count_of s)) → P (codes "_sum") (parts.Sum s.value) → P (codes "_created") (parts.Created s.value)
      → P (suffix_of family s.name) (part_of family s)
  summary_by P fair own count sum created = subst (P (suffix_of family s.name)) (sym (part_is family s)) (by_suffix st Summary family s refl fair.named
      (λ x. (bytes_eq x [] ≡ true → (d : DecimalValue) × (quantile_at s ≡ Finite d)) → P x (part_by x s))
      (λ f. (let place = f refl in subst (λ (v : Number). P [] (quantile_part (placed_quantile v s.value) s.value)) (sym place.1) (own (record { at = place.0; value = s.value }))), (λ f. count, (λ f. sum, (λ f. created, tt))))
      (place_of st family s fair))

  pub summary_sum : IsFair st Summary family s → sum_in (part_of family s) ≡ when (has_suffix family (codes "_sum") s) (Some s.value)
  summary_sum fair = summary_by (λ x p. sum_in p ≡ when (bytes_eq x (codes "_sum")) (Some s.value)) fair (λ q. refl) refl refl refl

  -- all but a created time are a quantile, a count or a sum
  pub summary_measured : IsFair st Summary family s → is_measured_part (part_of family s) ≡ is_measured family s
  summary_measured fair = summary_by (λ x p. is_measured_part p ≡ not (bytes_eq x (codes "_created"))) fair (λ q. refl) refl refl refl

  -- a counter's sample is its total or its created time
  pub counter_by : is_grouped st.format Counter ≡ true → IsFair st Counter family s → (P : List ℕ → Part → Type 0) → P (codes "_total") (parts.Total s.value) → P (codes "_created") (parts.Created s.value) → P (suffix_of family s.name) (part_of family s)
  counter_by grouped fair P total created = subst (P (suffix_of family s.name)) (sym (part_is family s)) (by_suffix st Counter family s grouped fair.named (λ x. P x (part_by x s)) (total, (created, tt)))

  pub counter_total : is_grouped st.format Counter ≡ true → IsFair st Counter family s → total_in (part_of family s) ≡ when (has_suffix family (codes "_total") s) (Some s.value)
  counter_total grouped fair = counter_by grouped fair (λ x p. total_in p ≡ when (bytes_eq x (codes "_total")) (Some s.value)) refl refl

-- a created time has this suffix
pub created_is : (kind : Kind) (st : Setting) (family : List ℕ) (s : Sample) → is_grouped st.format kind ≡ true → IsFair st kind family s → created_in (part_of family s) ≡ when (has_suffix family (codes "_created") s) (Some s.value)
created_is kind st family s grouped fair = ap created_in (part_is family s) ∙ of_grouped st.format
    (λ k. has_wrong_suffix st k family s ≡ false → created_in (part_by (suffix_of family s.name) s) ≡ when (has_suffix family (codes "_created") s) (Some s.value)) (record {
      histogram = λ named. by_suffix st Histogram family s refl named has_time (refl, (refl, (refl, (refl, tt))));
      gauge = λ named. by_suffix st GaugeHistogram family s refl named has_time (refl, (refl, (refl, tt)));
      summary = λ named. by_suffix st Summary family s refl named has_time (own_created (quantile_of s) s.value, (refl, (refl, (refl, tt))));
      counter = λ is named. by_suffix st Counter family s is named has_time (refl, (refl, tt));
    }) kind grouped fair.named
  where
    has_time : List ℕ → Type 0
    has_time x = created_in (part_by x s) ≡ when (bytes_eq x (codes "_created")) (Some s.value)

-- it is more than a created time where it has another suffix
pub measured_is : (kind : Kind) (st : Setting) (family : List ℕ) (s : Sample) → is_grouped st.format kind ≡ true → IsFair st kind family s → is_measure (part_of family s) ≡ is_measured family s
measured_is kind st family s grouped fair =
    by_part (part_of family s) ∙ ap (λ (o : Option Number). not (is_some o)) (created_is kind st family s grouped fair) ∙ by (has_suffix family (codes "_created") s)
  where
    by_part : (p : Part) → is_measure p ≡ not (is_some (created_in p))
    by_part (parts.Created n) = refl
    by_part _ = refl

    by : (b : Bool) → not (is_some (when b (Some s.value))) ≡ not b
    by true = refl
    by false = refl

-- a quantile or a sum has no exemplar
own_bears : (o : Option Quantile) (v : Number) → false ≡ bears_exemplar (quantile_part o v)
own_bears None v = refl
own_bears (Some q) v = refl

-- it may have an exemplar where it is a total or a bucket
pub bears_is : (kind : Kind) (st : Setting) (family : List ℕ) (s : Sample) → is_grouped st.format kind ≡ true → IsFair st kind family s → may_have_exemplar kind family s ≡ bears_exemplar (part_of family s)
bears_is kind st family s grouped fair = of_grouped st.format
    (λ k. has_wrong_suffix st k family s ≡ false → may_have_exemplar k family s ≡ bears_exemplar (part_by (suffix_of family s.name) s)) (record {
      histogram = λ named. by_suffix st Histogram family s refl named (λ x. bytes_eq x (codes "_bucket") ≡ bears_exemplar (part_by x s)) (refl, (refl, (refl, (refl, tt))));
      gauge = λ named. by_suffix st GaugeHistogram family s refl named (λ x. bytes_eq x (codes "_bucket") ≡ bears_exemplar (part_by x s)) (refl, (refl, (refl, tt)));
      summary = λ named. by_suffix st Summary family s refl named (λ x. false ≡ bears_exemplar (part_by x s)) (own_bears (quantile_of s) s.value, (refl, (refl, (refl, tt))));
      counter = λ is named. by_suffix st Counter family s is named (λ x. bytes_eq x (codes "_total") ≡ bears_exemplar (part_by x s)) (refl, (refl, tt));
    }) kind grouped fair.named
    ∙ ap bears_exemplar (sym (part_is family s))

-- ---- its time

pub same_time : (f : Format) (o : Option Number) → (o >>= stamp_nanos f >>= within_time) ≡ (o >>= stamped_time f)
same_time f None = refl
same_time f (Some n) = refl

-- ---- the parts of samples

module _ (st : Setting) (kind : Kind) (family : List ℕ) where
  -- the sample is of the group with these labels
  abbrev pub is_in_group : LabelSet → Sample → Bool
  is_in_group labels s = label_sets_eq (sample_group st kind family s) labels

  -- the samples by their groups and what they give these
  abbrev pub entries : List Sample → List (LabelSet × GroupMember)
  entries samples = map (entry_of st kind family) samples

  -- the labels of the members are the groups of the samples
  pub labels_of-entries : (samples : List Sample) → labels_of (entries samples) ≡ map (sample_group st kind family) samples
  labels_of-entries samples = map-map (λ (e : LabelSet × GroupMember). e.0) (entry_of st kind family) samples

  -- the members of a group are those of its samples
  pub members_in-entries : (labels : LabelSet) (samples : List Sample) → members_in labels (entries samples) ≡ map (member_of st.format family) (filter (is_in_group labels) samples)
  unfolding members_in
  members_in-entries labels samples = ap (map (λ (e : LabelSet × GroupMember). e.1)) (filter-map (λ (e : LabelSet × GroupMember). label_sets_eq e.0 labels) (entry_of st kind family) samples)
      ∙ map-map (λ (e : LabelSet × GroupMember). e.1) (entry_of st kind family) (filter (is_in_group labels) samples)

  -- and so are their parts
  pub parts_in-entries : (labels : LabelSet) (samples : List Sample) → parts_in labels (entries samples) ≡ map (part_of family) (filter (is_in_group labels) samples)
  parts_in-entries labels samples = ap parts_of (members_in-entries labels samples) ∙ map-map (λ (m : GroupMember). m.part) (member_of st.format family) (filter (is_in_group labels) samples)

  -- what some of the parts of a group have
  pub values_in-entries : {B : Type 0} (f : Part → Option B) (labels : LabelSet) (samples : List Sample) → filter_map f (parts_in labels (entries samples)) ≡ filter_map (λ s. when (is_in_group labels s) (f (part_of family s))) samples
  values_in-entries f labels samples = ap (filter_map f) (parts_in-entries labels samples) ∙ filter_map-map f (part_of family) (filter (is_in_group labels) samples) ∙ filter_map-filter (λ s. f (part_of family s)) (is_in_group labels) samples
