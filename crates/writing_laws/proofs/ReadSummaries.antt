-- The value of a reading of lines without a fault: quantiles, and the value of each kind.
use Rattle.std.proofs.Common.{◌≡◌, ℕ, ◌+◌, ◌≤◌, Bool, true, false, cond, not, ◌&&◌, ◌||◌, List, [], ◌∷◌, filter, filter_map, length, codes, Option, Some, None, is_some, option_and_then, refl, sym, ap, subst, ◌∙◌, inl, inr, ◌⊎◌}
use Rattle.std.specs.List.{list_any, cons_option, AllByRecursion, IsDistinct}
use Rattle.std.proofs.lemmas.Bool.{or_parts, or_left, or_right, not-false}
use Rattle.std.proofs.lemmas.Option.{same_Some}
use Rattle.std.proofs.lemmas.List.Elements.{All-from_recursion}
use Rattle.label_sets.specs.declared.kind.Kind.{Kind}
use Rattle.label_sets.specs.declared.kind.Kind.TheVariants.{Counter, Gauge, Histogram, GaugeHistogram, StateSet, Info, Summary, Unknown}
use Rattle.label_sets.specs.declared.label_set.LabelSet.{LabelSet}
use Rattle.label_sets.specs.Labels.{has_name}
use Rattle.label_sets.proofs.Laws.{all-weaker}
use Rattle.exact_decimal.specs.declared.number.Number.{Number}
use Rattle.exact_decimal.specs.declared.number.Number.TheVariants.{Finite, Up, Down, NotANumber}
use Rattle.exact_decimal.specs.Decimals.{IsNormal}
use Rattle.exact_decimal.specs.Order.{same, whole, is_finite}
use Rattle.page_model.specs.declared.format.Format.{Format}
use Rattle.page_model.specs.declared.format.Format.TheVariants.{Text, OpenMetrics}
use Rattle.page_model.specs.declared.item.Sample.{Sample}
use Rattle.page_model.specs.declared.page.Bucket.{Bucket}
use Rattle.page_model.specs.declared.page.Quantile.{Quantile}
use Rattle.page_model.specs.declared.page.Value.{Value}
use Rattle.page_model.specs.declared.page.Value.TheVariants as values
use Rattle.page_model.specs.Written.{Setting, label_limit}
use Rattle.page_model.specs.Suffixes.{suffixes, is_sample_name}
use Rattle.page_model.specs.Rules.{has_suffix, is_count, quantile_at, is_whole, has_wrong_suffix, has_forbidden_value, has_bad_value, has_bad_threshold}
use Rattle.page_model.specs.Readings.{value_with, either_value, buckets_of, quantile_of, placed_quantile, quantiles_of, sum_of, is_measured, counter_suffix, value_of}
use Rattle.sample_groups.proofs.Laws.{RiseToUp}
use Rattle.family_rules.proofs.Laws.{IsValueOf}
use Rattle.open_writing.specs.Forms.{IsFormedNumber, is_plain_value, is_one_place, is_some_summary, is_u64_option, IsFormedValue}
use Rattle.writing_laws.proofs.Turned.{Pairs}
use Rattle.writing_laws.proofs.FairParts.{NoPlace}
use Rattle.writing_laws.proofs.ReadParts.{IsPart, found_value, value_there, some_suffix}
use Rattle.writing_laws.proofs.ReadValues.{label_number, has_number, one_more, free_quantile, whole_fits, formed_sum, plain_formed, counter_value, info_value, state_value, histogram_formed}

module _ (st : Setting) (family : List ℕ) (labels : LabelSet) where
  -- ---- quantiles

  pub record IsReadQuantile (q : Quantile) : Type 0 where
    pub at : IsNormal q.at
    pub value : IsFormedNumber q.value
    pub room : length labels + 1 ≤ label_limit st.treatment

  finite_place : (s : Sample) → has_bad_threshold Summary family s ≡ false → has_suffix family [] s ≡ true → is_finite (quantile_at s) ≡ true
  unfolding has_bad_threshold
  finite_place s placed e = not-false (is_finite (quantile_at s)) (rw e at placed)

  place_room : (s : Sample) → IsPart st Summary family labels s → has_suffix family [] s ≡ true → length labels + 1 ≤ label_limit st.treatment
  place_room s part e = one_more st family labels (codes "quantile") s part.formed part.of (free_quantile st family labels st.treatment) (has_number st family labels is_finite (codes "quantile") s.labels refl (finite_place s part.placed e))

  placed_formed : (n value : Number) (qs : List Quantile) → IsFormedNumber n → IsFormedNumber value → length labels + 1 ≤ label_limit st.treatment → AllByRecursion IsReadQuantile qs → AllByRecursion IsReadQuantile (cons_option (placed_quantile n value) qs)
  placed_formed (Finite d) value qs h k room ih = (record { at = h; value = k; room = room }, ih)
  placed_formed _ value qs h k room ih = ih

  pub read_quantiles : (own : List Sample) → AllByRecursion (IsPart st Summary family labels) own → AllByRecursion IsReadQuantile (quantiles_of family own)
  unfolding quantiles_of
  read_quantiles [] h = tt
  read_quantiles (s ∷ own) h = go (has_suffix family [] s) refl (read_quantiles own h.1)
    where
      go : (b : Bool) → has_suffix family [] s ≡ b → AllByRecursion IsReadQuantile (filter_map quantile_of (filter (has_suffix family []) own))
          → AllByRecursion IsReadQuantile (filter_map quantile_of (cond b (s ∷ filter (has_suffix family []) own) (filter (has_suffix family []) own)))
      go true e ih = placed_formed (quantile_at s) s.value (filter_map quantile_of (filter (has_suffix family []) own)) (label_number st family labels (codes "quantile") s.labels) h.0.formed.value (place_room s h.0 e) ih
      go false e ih = ih

  -- no two samples have one place
  abbrev pub Placed : Sample → Sample → Type 0
  Placed t s = same (quantile_at t) (quantile_at s) ≡ false

  others_placed : (n value : Number) (xs : List Sample) → AllByRecursion (λ s. same n (quantile_at s) ≡ false) xs → (q : Quantile) → n ≡ Finite q.at → AllByRecursion (λ r. is_one_place q r ≡ false) (filter_map quantile_of xs)
  others_placed n value [] h q e = tt
  others_placed n value (s ∷ xs) h q e = go (quantile_at s) refl (others_placed n value xs h.1 q e)
    where
      go : (m : Number) → quantile_at s ≡ m → AllByRecursion (λ r. is_one_place q r ≡ false) (filter_map quantile_of xs) → AllByRecursion (λ r. is_one_place q r ≡ false) (cons_option (placed_quantile m s.value) (filter_map quantile_of xs))
      go (Finite d) f ih = (ap (λ k. same k (Finite d)) (sym e) ∙ ap (λ k. same n k) (sym f) ∙ h.0, ih)
      go Up f ih = ih
      go Down f ih = ih
      go NotANumber f ih = ih

  distinct_places : (xs : List Sample) → Pairs Placed xs → IsDistinct is_one_place (filter_map quantile_of xs)
  unfolding IsDistinct
  distinct_places [] p = tt
  distinct_places (s ∷ xs) p = go (quantile_at s) refl (distinct_places xs p.1)
    where
      go : (n : Number) → quantile_at s ≡ n → IsDistinct is_one_place (filter_map quantile_of xs) → IsDistinct is_one_place (cons_option (placed_quantile n s.value) (filter_map quantile_of xs))
      go (Finite d) e ih = (others_placed (quantile_at s) s.value xs p.0 (record { at = d; value = s.value }) e, ih)
      go Up e ih = ih
      go Down e ih = ih
      go NotANumber e ih = ih

  -- ---- a summary says something

  any-or : {A : Type 0} (p q : A → Bool) (xs : List A) → list_any (λ x. p x || q x) xs ≡ true → (list_any p xs ≡ true) ⊎ (list_any q xs ≡ true)
  any-or p q [] h = absurd cc
  any-or p q (x ∷ xs) h = go (p x) (q x) h (any-or p q xs)
    where
      go : (a b : Bool) → ((a || b) || list_any (λ y. p y || q y) xs) ≡ true → (list_any (λ y. p y || q y) xs ≡ true → (list_any p xs ≡ true) ⊎ (list_any q xs ≡ true)) → ((a || list_any p xs) ≡ true) ⊎ ((b || list_any q xs) ≡ true)
      go true b k ih = inl refl
      go false true k ih = inr refl
      go false false k ih = ih k

  any-weaker : {A : Type 0} (P : A → Type 0) (p q : A → Bool) → ((x : A) → P x → p x ≡ true → q x ≡ true) → (xs : List A) → AllByRecursion P xs → list_any p xs ≡ true → list_any q xs ≡ true
  any-weaker P p q more [] h e = e
  any-weaker P p q more (x ∷ xs) h e = go (p x) refl e (any-weaker P p q more xs h.1)
    where
      go : (b : Bool) → p x ≡ b → (b || list_any p xs) ≡ true → (list_any p xs ≡ true → list_any q xs ≡ true) → (q x || list_any q xs) ≡ true
      go true f k ih = or_left (q x) (list_any q xs) (more x h.0 f)
      go false f k ih = or_right (q x) (list_any q xs) (ih k)

  -- a value, a count or a sum
  abbrev says_something : Sample → Bool
  says_something s = has_suffix family [] s || (has_suffix family (codes "_count") s || has_suffix family (codes "_sum") s)

  something : (f : Format) (s : Sample) → list_any (λ x. has_suffix family x s) (suffixes f Summary) ≡ true → is_measured family s ≡ true → says_something s ≡ true
  something Text s h m = by (has_suffix family [] s) (has_suffix family (codes "_sum") s) (has_suffix family (codes "_count") s) h
    where
      by : (a b c : Bool) → (a || (b || (c || false))) ≡ true → (a || (c || b)) ≡ true
      by true b c e = refl
      by false true true e = refl
      by false true false e = refl
      by false false true e = refl
      by false false false e = absurd (let k : false ≡ true = e in cc)
  something OpenMetrics s h m = by (has_suffix family [] s) (has_suffix family (codes "_count") s) (has_suffix family (codes "_sum") s) (has_suffix family (codes "_created") s) h m
    where
      by : (a b c d : Bool) → (a || (b || (c || (d || false)))) ≡ true → not d ≡ true → (a || (b || c)) ≡ true
      by true b c d e g = refl
      by false true c d e g = refl
      by false false true d e g = refl
      by false false false true e g = absurd (let k : false ≡ true = g in cc)
      by false false false false e g = absurd (let k : false ≡ true = e in cc)

  part_something : (s : Sample) → IsPart st Summary family labels s → is_measured family s ≡ true → says_something s ≡ true
  unfolding has_wrong_suffix
  part_something s part m = something st.format s (some_suffix family s (suffixes st.format Summary) (not-false (is_sample_name st.format Summary family s.name) part.named)) m

  -- there is a quantile
  abbrev is_some_list : List Quantile → Bool
  is_some_list [] = false
  is_some_list (q ∷ qs) = true

  quantile_there : (own : List Sample) → AllByRecursion (IsPart st Summary family labels) own → list_any (has_suffix family []) own ≡ true → is_some_list (quantiles_of family own) ≡ true
  unfolding quantiles_of
  quantile_there [] h e = absurd cc
  quantile_there (s ∷ own) h e = go (has_suffix family [] s) refl e (quantile_there own h.1)
    where
      one : (n value : Number) (qs : List Quantile) → is_finite n ≡ true → is_some_list (cons_option (placed_quantile n value) qs) ≡ true
      one (Finite d) value qs k = refl
      one Up value qs k = absurd cc
      one Down value qs k = absurd cc
      one NotANumber value qs k = absurd cc

      go : (b : Bool) → has_suffix family [] s ≡ b → (b || list_any (has_suffix family []) own) ≡ true → (list_any (has_suffix family []) own ≡ true → is_some_list (filter_map quantile_of (filter (has_suffix family []) own)) ≡ true)
          → is_some_list (filter_map quantile_of (cond b (s ∷ filter (has_suffix family []) own) (filter (has_suffix family []) own))) ≡ true
      go true f k ih = one (quantile_at s) s.value (filter_map quantile_of (filter (has_suffix family []) own)) (finite_place s h.0.placed f)
      go false f k ih = ih k

  by_list : (qs : List Quantile) (count : Option ℕ) (sum : Option Number) → is_some_list qs ≡ true → is_some_summary qs count sum ≡ true
  by_list [] count sum e = absurd cc
  by_list (q ∷ qs) count sum e = refl

  by_count : (qs : List Quantile) (count : Option ℕ) (sum : Option Number) → is_some count ≡ true → is_some_summary qs count sum ≡ true
  by_count [] count sum e = or_left (is_some count) (is_some sum) e
  by_count (q ∷ qs) count sum e = refl

  by_sum : (qs : List Quantile) (count : Option ℕ) (sum : Option Number) → is_some sum ≡ true → is_some_summary qs count sum ≡ true
  by_sum [] count sum e = or_right (is_some count) (is_some sum) e
  by_sum (q ∷ qs) count sum e = refl

  count_whole : (s : Sample) → has_bad_value st.format Summary family s ≡ false → has_suffix family (codes "_count") s ≡ true → is_some (whole s.value) ≡ true
  unfolding has_bad_value has_forbidden_value
  count_whole s valued e =
      by (is_count family s) (is_whole s.value) (or_parts (is_count family s && not (is_whole s.value)) _ valued).0 (or_left (has_suffix family (codes "_count") s) (has_suffix family (codes "_gcount") s) e)
    where
      by : (a b : Bool) → (a && not b) ≡ false → a ≡ true → b ≡ true
      by true true k f = refl
      by true false k f = absurd (let h : true ≡ false = k in cc)
      by false b k f = absurd cc

  count_there : (own : List Sample) → AllByRecursion (IsPart st Summary family labels) own → list_any (has_suffix family (codes "_count")) own ≡ true → is_some (option_and_then whole (value_with family (codes "_count") own)) ≡ true
  count_there own h e = go (value_with family (codes "_count") own) refl (value_there family (codes "_count") own e)
    where
      go : (o : Option Number) → value_with family (codes "_count") own ≡ o → is_some o ≡ true → is_some (option_and_then whole o) ≡ true
      go None f k = absurd cc
      go (Some n) f k =
          let s = found_value family (IsPart st Summary family labels) (codes "_count") own n h f in
          subst (λ m. is_some (whole m) ≡ true) s.3 (count_whole s.0 s.1.valued s.2)

  sum_there : (own : List Sample) → list_any (has_suffix family (codes "_sum")) own ≡ true → is_some (sum_of family own) ≡ true
  unfolding sum_of
  sum_there own e = go (value_with family (codes "_sum") own) (value_there family (codes "_sum") own e)
    where
      go : (o : Option Number) → is_some o ≡ true → is_some (either_value o (value_with family (codes "_gsum") own)) ≡ true
      go None k = absurd cc
      go (Some n) k = refl

  some_summary : (own : List Sample) → AllByRecursion (IsPart st Summary family labels) own → list_any (is_measured family) own ≡ true
      → is_some_summary (quantiles_of family own) (option_and_then whole (value_with family (codes "_count") own)) (sum_of family own) ≡ true
  some_summary own h e = go (any-or (has_suffix family []) (λ s. has_suffix family (codes "_count") s || has_suffix family (codes "_sum") s) own (any-weaker (IsPart st Summary family labels) (is_measured family) says_something part_something own h e))
    where
      go : (list_any (has_suffix family []) own ≡ true) ⊎ (list_any (λ s. has_suffix family (codes "_count") s || has_suffix family (codes "_sum") s) own ≡ true)
          → is_some_summary (quantiles_of family own) (option_and_then whole (value_with family (codes "_count") own)) (sum_of family own) ≡ true
      go (inl k) = by_list (quantiles_of family own) _ _ (quantile_there own h k)
      go (inr k) = more (any-or (has_suffix family (codes "_count")) (has_suffix family (codes "_sum")) own k)
        where
          more : (list_any (has_suffix family (codes "_count")) own ≡ true) ⊎ (list_any (has_suffix family (codes "_sum")) own ≡ true)
              → is_some_summary (quantiles_of family own) (option_and_then whole (value_with family (codes "_count") own)) (sum_of family own) ≡ true
          more (inl c) = by_count (quantiles_of family own) (option_and_then whole (value_with family (codes "_count") own)) (sum_of family own) (count_there own h c)
          more (inr c) = by_sum (quantiles_of family own) (option_and_then whole (value_with family (codes "_count") own)) (sum_of family own) (sum_there own c)

  fits_then : (o : Option Number) → is_u64_option (option_and_then whole o) ≡ true
  fits_then None = refl
  fits_then (Some n) = whole_fits st family labels n

  summary_formed : (own : List Sample) → AllByRecursion (IsPart st Summary family labels) own → Pairs Placed (filter (has_suffix family []) own) → has_name labels (codes "quantile") ≡ false → list_any (is_measured family) own ≡ true
      → IsFormedValue st.format st.treatment Summary family labels (values.Quantiles (quantiles_of family own) (option_and_then whole (value_with family (codes "_count") own)) (sum_of family own))
  unfolding quantiles_of
  summary_formed own h places free measured = (
    refl,
    distinct_places (filter (has_suffix family []) own) places,
    All-from_recursion (λ (q : Quantile). IsNormal q.at × IsFormedNumber q.value) (quantiles_of family own) (all-weaker IsReadQuantile (λ (q : Quantile). IsNormal q.at × IsFormedNumber q.value) (λ q r. (r.at, r.value)) (quantiles_of family own) (read_quantiles own h)),
    formed_sum st family labels Summary own h,
    fits_then (value_with family (codes "_count") own),
    some_summary own h measured,
    ap not free,
  )

  -- ---- the value of a kind

  rising_buckets : (bs : List Bucket) (sum : Option Number) (v : Value) → Some (values.Buckets bs sum) ≡ Some v → IsValueOf Histogram v → RiseToUp bs
  rising_buckets bs sum v e h = subst (IsValueOf Histogram) (sym (same_Some (values.Buckets bs sum) v e)) h

  pub formed_value : (kind : Kind) (own : List Sample) → AllByRecursion (IsPart st kind family labels) own → NoPlace kind labels → (kind ≡ Summary → Pairs Placed (filter (has_suffix family []) own))
      → (v : Value) → value_of st.format kind family own ≡ Some v → IsValueOf kind v → IsFormedValue st.format st.treatment kind family labels v
  unfolding value_of is_plain_value
  formed_value Counter own h free places v e k = plain_formed st family labels Counter (counter_suffix st.format) own h (λ s part has. counter_value st family labels st.format st.treatment s part.valued has) v e
  formed_value Gauge own h free places v e k = plain_formed st family labels Gauge [] own h (λ s part has. refl) v e
  formed_value Unknown own h free places v e k = plain_formed st family labels Unknown [] own h (λ s part has. refl) v e
  formed_value Info own h free places v e k = plain_formed st family labels Info (codes "_info") own h (λ s part has. info_value st family labels st.format st.treatment s part.valued) v e
  formed_value StateSet own h free places v e k = plain_formed st family labels StateSet [] own h (λ s part has. state_value st family labels st.format s part.valued part.of) v e
  formed_value Histogram own h free places v e k =
      subst (IsFormedValue st.format st.treatment Histogram family labels) (same_Some (values.Buckets (buckets_of family own) (sum_of family own)) v e)
      (histogram_formed st family labels Histogram own refl h free (rising_buckets (buckets_of family own) (sum_of family own) v e k))
  formed_value GaugeHistogram own h free places v e k =
      subst (IsFormedValue st.format st.treatment GaugeHistogram family labels) (same_Some (values.Buckets (buckets_of family own) (sum_of family own)) v e)
      (histogram_formed st family labels GaugeHistogram own refl h free (rising_buckets (buckets_of family own) (sum_of family own) v e k))
  formed_value Summary own h free places v e k = go (list_any (is_measured family) own) refl e
    where
      go : (b : Bool) → list_any (is_measured family) own ≡ b → cond b (Some (values.Quantiles (quantiles_of family own) (option_and_then whole (value_with family (codes "_count") own)) (sum_of family own))) None ≡ Some v
          → IsFormedValue st.format st.treatment Summary family labels v
      go false m f = absurd cc
      go true m f = subst (IsFormedValue st.format st.treatment Summary family labels) (same_Some (values.Quantiles (quantiles_of family own) (option_and_then whole (value_with family (codes "_count") own)) (sum_of family own)) v f)
          (summary_formed own h (places refl) free m)
