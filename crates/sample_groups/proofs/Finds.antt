-- How the part of a sample is found: what its name and its rules come to.
use Rattle.std.proofs.Common.{◌≡◌, ℕ, Bool, true, false, cond, not, ◌&&◌, ◌||◌, List, ◌++◌, Result, Ok, Err, refl, ◌∙◌, codes}
use Rattle.label_sets.specs.declared.kind.Kind.{Kind}
use Rattle.label_sets.specs.declared.kind.Kind.TheVariants.{Counter, Histogram, GaugeHistogram, Summary}
use Rattle.label_sets.specs.Labels.{has_name}
use Rattle.page_model.specs.declared.item.Sample.{Sample}
use Rattle.page_model.specs.declared.rule.Rule.{Rule}
use Rattle.page_model.specs.declared.rule.Rule.TheVariants as rules_of
use Rattle.page_model.specs.declared.suffix.Suffix.{Suffix}
use Rattle.page_model.specs.declared.suffix.Suffix.TheVariants.{Own, Bucket, Count, GaugeCount, Sum, GaugeSum, Total, Created}
use Rattle.page_model.specs.Written.{Setting}
use Rattle.page_model.specs.SuffixNames.{suffix_bytes}
use Rattle.page_model.specs.Rules.{is_open_metrics, has_wrong_suffix, has_bad_value, has_forbidden_value, has_bad_threshold, is_whole, is_bound, threshold, quantile_at}
use Rattle.page_model.specs.Readings.{bucket_of, quantile_of}
use Rattle.exact_decimal.specs.Numbers.{number_of}
use Rattle.exact_decimal.specs.Order.{less, is_finite, is_not_a_number}
use Rattle.sample_groups.specs.declared.part.Part.{Part}
use Rattle.sample_groups.specs.declared.part.Part.TheVariants as parts
use Rattle.sample_groups.specs.Parts.{is_grouped, quantile_part, part_of}
use Rattle.sample_groups.specs.Finding.{found, grouped_part}
use Rattle.sample_groups.proofs.KindCases.{of_grouped}
use Rattle.sample_groups.proofs.Samples.{by_name, count_of}

or_none : (a : Bool) → (a || false) ≡ true → a ≡ true
or_none true e = refl
or_none false e = e

-- ---- the rules

-- no created time is asked for with another suffix
not_created : (om finite : Bool) → (om && false && not finite) ≡ false
not_created true finite = refl
not_created false finite = refl

module _ (part : Part) (om finite : Bool) where
  -- a bucket
  with_bound : (whole bound : Bool) → cond whole (cond bound (Ok part) (Err rules_of.Threshold)) (Err rules_of.Value)
      ≡ cond (not whole || (om && false && not finite)) (Err rules_of.Value) (cond (not bound) (Err rules_of.Threshold) (Ok part))
  with_bound true true = rw (not_created om finite) refl
  with_bound true false = rw (not_created om finite) refl
  with_bound false bound = refl

  -- a count
  with_whole : (whole placed : Bool) → cond whole (cond placed (Err rules_of.Threshold) (Ok part)) (Err rules_of.Value)
      ≡ cond (not whole || (om && false && not finite)) (Err rules_of.Value) (cond placed (Err rules_of.Threshold) (Ok part))
  with_whole true placed = rw (not_created om finite) refl
  with_whole false placed = refl

  -- a sum
  with_any : (placed : Bool) → cond placed (Err rules_of.Threshold) (Ok part) ≡ cond (om && false && not finite) (Err rules_of.Value) (cond placed (Err rules_of.Threshold) (Ok part))
  with_any placed = rw (not_created om finite) refl

  -- a quantile
  with_place : (placed : Bool) → cond placed (Ok part) (Err rules_of.Threshold) ≡ cond (om && false && not finite) (Err rules_of.Value) (cond (not placed) (Err rules_of.Threshold) (Ok part))
  with_place true = rw (not_created om finite) refl
  with_place false = rw (not_created om finite) refl

  -- a total
  with_total : (bad : Bool) → cond bad (Err rules_of.Value) (Ok part) ≡ cond (bad || (om && false && not finite)) (Err rules_of.Value) (Ok part)
  with_total true = refl
  with_total false = rw (not_created om finite) refl

  -- a created time
  with_time : (placed : Bool) → om ≡ true → cond finite (cond placed (Err rules_of.Threshold) (Ok part)) (Err rules_of.Value)
      ≡ cond (om && true && not finite) (Err rules_of.Value) (cond placed (Err rules_of.Threshold) (Ok part))
  with_time placed is = rw is (by finite)
    where
      by : (b : Bool) → cond b (cond placed (Err rules_of.Threshold) (Ok part)) (Err rules_of.Value) ≡ cond (not b) (Err rules_of.Value) (cond placed (Err rules_of.Threshold) (Ok part))
      by true = refl
      by false = refl

-- the part of a sample whose name its kind allows, or the rule that it breaks
module _ (st : Setting) (family : List ℕ) (s : Sample) (suffix : Suffix) (only : (x : Suffix) → s.name ≡ family ++ suffix_bytes x → suffix ≡ x) where
  -- what the part or the rule is
  abbrev IsTold : Kind → Type 0
  IsTold kind = found kind s suffix ≡ grouped_part st.format kind family s

  -- the format is OpenMetrics, and the value is finite
  abbrev in_open : Bool
  in_open = is_open_metrics st.format

  abbrev finite : Bool
  finite = is_finite s.value

  counter_told : is_grouped st.format Counter ≡ true → has_wrong_suffix st Counter family s ≡ false → IsTold Counter
  unfolding has_bad_value has_forbidden_value has_bad_threshold part_of
  counter_told grouped named = by_name st Counter family s grouped named (IsTold Counter) (
    λ h. rw (only Total h.name_is, h.behind) (with_total (parts.Total s.value) in_open finite (is_not_a_number s.value || less s.value (number_of 0))),
    (λ h. rw (only Created h.name_is, h.behind) (with_time (parts.Created s.value) in_open finite false (or_none _ h.may)), tt),
  )

  histogram_told : has_wrong_suffix st Histogram family s ≡ false → IsTold Histogram
  unfolding has_bad_value has_forbidden_value has_bad_threshold part_of
  histogram_told named = by_name st Histogram family s refl named (IsTold Histogram) (
    λ h. rw (only Bucket h.name_is, h.behind) (with_bound (parts.Bucket (bucket_of s)) in_open finite (is_whole s.value) (is_bound (threshold s))),
    (
      λ h. rw (only Count h.name_is, h.behind) (with_whole (parts.Count (count_of s)) in_open finite (is_whole s.value) (has_name s.labels (codes "le"))),
      (
        λ h. rw (only Sum h.name_is, h.behind) (with_any (parts.Sum s.value) in_open finite (has_name s.labels (codes "le"))),
        (λ h. rw (only Created h.name_is, h.behind) (with_time (parts.Created s.value) in_open finite (has_name s.labels (codes "le")) (or_none _ h.may)), tt),
      ),
    ),
  )

  gauge_told : has_wrong_suffix st GaugeHistogram family s ≡ false → IsTold GaugeHistogram
  unfolding has_bad_value has_forbidden_value has_bad_threshold part_of
  gauge_told named = by_name st GaugeHistogram family s refl named (IsTold GaugeHistogram) (
    λ h. rw (only Bucket h.name_is, h.behind) (with_bound (parts.Bucket (bucket_of s)) in_open finite (is_whole s.value) (is_bound (threshold s))),
    (
      λ h. rw (only GaugeCount h.name_is, h.behind) (with_whole (parts.Count (count_of s)) in_open finite (is_whole s.value) (has_name s.labels (codes "le"))),
      (λ h. rw (only GaugeSum h.name_is, h.behind) (with_any (parts.Sum s.value) in_open finite (has_name s.labels (codes "le"))), tt),
    ),
  )

  summary_told : has_wrong_suffix st Summary family s ≡ false → IsTold Summary
  unfolding has_bad_value has_forbidden_value has_bad_threshold part_of
  summary_told named = by_name st Summary family s refl named (IsTold Summary) (
    λ h. rw (only Own h.name_is, h.behind) (with_place (quantile_part (quantile_of s) s.value) in_open finite (is_finite (quantile_at s))),
    (
      λ h. rw (only Count h.name_is, h.behind) (with_whole (parts.Count (count_of s)) in_open finite (is_whole s.value) (has_name s.labels (codes "quantile"))),
      (
        λ h. rw (only Sum h.name_is, h.behind) (with_any (parts.Sum s.value) in_open finite (has_name s.labels (codes "quantile"))),
        (λ h. rw (only Created h.name_is, h.behind) (with_time (parts.Created s.value) in_open finite (has_name s.labels (codes "quantile")) (or_none _ h.may)), tt),
      ),
    ),
  )

  found_is : (kind : Kind) → is_grouped st.format kind ≡ true → has_wrong_suffix st kind family s ≡ false → IsTold kind
  found_is = of_grouped st.format (λ k. has_wrong_suffix st k family s ≡ false → IsTold k) (record { histogram = histogram_told; gauge = gauge_told; summary = summary_told; counter = counter_told })

-- the same of a sample with this suffix
pub found_by : (kind : Kind) (family : List ℕ) (s : Sample) (suffix : Suffix) (part : Result Part Rule) → ((x : Suffix) → s.name ≡ family ++ suffix_bytes x → suffix ≡ x) → part ≡ found kind s suffix
    → (st : Setting) → is_grouped st.format kind ≡ true → has_wrong_suffix st kind family s ≡ false
    → part ≡ grouped_part st.format kind family s
found_by kind family s suffix part only is st grouped named = is ∙ found_is st family s suffix only kind grouped named
