-- The values of the readings of a page without a fault are those of their kinds, and the buckets of its histograms rise to the bucket `+Inf`.
use Rattle.std.proofs.Common.{◌≡◌, ℕ, Bool, true, false, cond, not, ◌&&◌, List, [], ◌∷◌, map, filter, filter_map, reverse, codes, Option, Some, None, option_map, option_and_then, refl, sym, subst, ◌∙◌, IfSome}
use Rattle.std.specs.Prelude.{⊤, unwrap_or}
use Rattle.std.specs.List.{list_all, list_any, cons_option, AllByRecursion}
use Rattle.std.proofs.lemmas.Bool.{not-false}
use Rattle.label_sets.specs.declared.kind.Kind.{Kind}
use Rattle.label_sets.specs.declared.kind.Kind.TheVariants.{Counter, Gauge, Histogram, GaugeHistogram, StateSet, Info, Summary, Unknown}
use Rattle.label_sets.specs.declared.label_set.LabelSet.{LabelSet}
use Rattle.label_sets.specs.Labels.{label_sets_eq}
use Rattle.label_sets.specs.Lists.{first_of_each, first_some}
use Rattle.exact_decimal.specs.declared.number.Number.{Number}
use Rattle.exact_decimal.specs.Order.{whole}
use Rattle.page_model.specs.declared.item.Item.{Item}
use Rattle.page_model.specs.declared.item.Sample.{Sample}
use Rattle.page_model.specs.declared.page.Reading.{Reading}
use Rattle.page_model.specs.declared.page.Value.{Value}
use Rattle.page_model.specs.declared.page.Value.TheVariants as values
use Rattle.page_model.specs.Written.{Setting}
use Rattle.page_model.specs.Owners.{Owned, kind_of, owned_lines, samples_of}
use Rattle.page_model.specs.Rules.{is_histogram, is_complete_at, is_incomplete}
use Rattle.page_model.specs.Faults.{end_fault}
use Rattle.page_model.specs.Pages.{AreFaultless}
use Rattle.page_model.specs.Readings.{value_with, counter_suffix, is_measured, value_of, key_name, reading_labels, stamp_of, exemplars_of, reading_of, readings_of, quantiles_of, sum_of, unit_in, family_of}
use Rattle.page_model.proofs.Laws.{kind_of_page}
use Rattle.sample_groups.specs.Groups.{Gathered, groups_from, is_whole_group, reading_from}
use Rattle.sample_groups.specs.Parts.{is_grouped, entry_of}
use Rattle.sample_groups.specs.Sound.{AreSound}
use Rattle.sample_groups.proofs.Laws.{whole_kept, readings_made, RiseToUp, whole_rise}
use Rattle.family_rules.proofs.Faults.{fit_lines, sound_samples}
use Rattle.family_rules.proofs.Kept.{reversed_samples}
use Rattle.family_rules.proofs.Complete.{all_complete}

-- ---- the value of a kind

-- one number
abbrev pub IsPlain : Value → Type 0
IsPlain (values.Plain n) = ⊤
IsPlain _ = ⊥

-- quantiles
abbrev pub IsQuantiles : Value → Type 0
IsQuantiles (values.Quantiles list count sum) = ⊤
IsQuantiles _ = ⊥

-- buckets that rise to the bucket `+Inf`
abbrev pub HasRisingBuckets : Value → Type 0
HasRisingBuckets (values.Buckets buckets sum) = RiseToUp buckets
HasRisingBuckets _ = ⊥

-- a value of the kind
abbrev pub IsValueOf : Kind → Value → Type 0
IsValueOf Histogram v = HasRisingBuckets v
IsValueOf GaugeHistogram v = HasRisingBuckets v
IsValueOf Summary v = IsQuantiles v
IsValueOf _ v = IsPlain v

-- the readings have values of the kind
abbrev pub HaveValuesOf : Kind → List Reading → Type 0
HaveValuesOf kind rs = AllByRecursion (λ (r : Reading). IsValueOf kind r.value) rs

-- ---- what each reading is made from

module _ (P : Value → Type 0) (st : Setting) (kind : Kind) (family unit : List ℕ) (samples : List Sample) (each : (own : List Sample) → IfSome (value_of st.format kind family own) P) where
  one_made : (labels : LabelSet) → IfSome (reading_of st kind family unit samples labels) (λ (r : Reading). P r.value)
  unfolding reading_of
  one_made labels = by (filter (λ s. label_sets_eq (reading_labels st kind family s) labels) samples)
    where
      by : (own : List Sample) → IfSome (option_map (λ value. record {
        key = record { name = key_name st.format kind family; kind = kind; unit = unit; labels = labels };
        value = value;
        created = value_with family (codes "_created") own;
        stamp = stamp_of st.format family own;
        exemplars = exemplars_of kind family own;
      }) (value_of st.format kind family own)) (λ (r : Reading). P r.value)
      by own = of (value_of st.format kind family own) (each own)
        where
          of : (o : Option Value) → IfSome o P → IfSome (option_map (λ value. record {
            key = record { name = key_name st.format kind family; kind = kind; unit = unit; labels = labels };
            value = value;
            created = value_with family (codes "_created") own;
            stamp = stamp_of st.format family own;
            exemplars = exemplars_of kind family own;
          }) o) (λ (r : Reading). P r.value)
          of None h = tt
          of (Some v) h = h

  all_made : AllByRecursion (λ (r : Reading). P r.value) (readings_of st kind family unit samples)
  unfolding readings_of
  all_made = go (first_of_each label_sets_eq (map (reading_labels st kind family) samples))
    where
      more : (o : Option Reading) (rs : List Reading) → IfSome o (λ (r : Reading). P r.value) → AllByRecursion (λ (r : Reading). P r.value) rs → AllByRecursion (λ (r : Reading). P r.value) (cons_option o rs)
      more None rs h k = k
      more (Some r) rs h k = (h, k)

      go : (ls : List LabelSet) → AllByRecursion (λ (r : Reading). P r.value) (filter_map (reading_of st kind family unit samples) ls)
      go [] = tt
      go (l ∷ ls) = more (reading_of st kind family unit samples l) (filter_map (reading_of st kind family unit samples) ls) (one_made l) (go ls)

plain_value : (o : Option Number) → IfSome (option_map values.Plain o) IsPlain
plain_value None = tt
plain_value (Some n) = tt

-- ---- the readings of a family

module _ (st : Setting) (family unit : List ℕ) where
  -- the groups of samples, the nearest first, are whole
  abbrev AreWhole : Kind → List Sample → Type 0
  AreWhole kind above = list_all (λ (g : LabelSet × Gathered). is_whole_group g.1) (groups_from (map (entry_of st kind family) (reverse above))) ≡ true

  rising_readings : (kind : Kind) (gs : List (LabelSet × Gathered)) → is_histogram kind ≡ true → AllByRecursion (λ (g : LabelSet × Gathered). RiseToUp g.1.buckets) gs → HaveValuesOf kind (filter_map (reading_from st.format kind family unit) gs)
  rising_readings Histogram [] h rise = tt
  rising_readings Histogram (g ∷ gs) h rise = (rise.0, rising_readings Histogram gs h rise.1)
  rising_readings GaugeHistogram [] h rise = tt
  rising_readings GaugeHistogram (g ∷ gs) h rise = (rise.0, rising_readings GaugeHistogram gs h rise.1)
  rising_readings Counter gs h rise = absurd cc
  rising_readings Gauge gs h rise = absurd cc
  rising_readings Summary gs h rise = absurd cc
  rising_readings StateSet gs h rise = absurd cc
  rising_readings Info gs h rise = absurd cc
  rising_readings Unknown gs h rise = absurd cc

  histogram_values : (kind : Kind) (above : List Sample) → is_histogram kind ≡ true → is_grouped st.format kind ≡ true → AreSound st kind family above → AreWhole kind above → HaveValuesOf kind (readings_of st kind family unit (reverse above))
  histogram_values kind above histogram grouped sound whole =
      subst (HaveValuesOf kind) (sym (readings_made st kind family unit above grouped sound))
      (rising_readings kind (groups_from (map (entry_of st kind family) (reverse above))) histogram (whole_rise st kind family histogram above sound whole))

  family_values : (kind : Kind) (above : List Sample) → AreSound st kind family above → (is_histogram kind ≡ true → AreWhole kind above) → HaveValuesOf kind (readings_of st kind family unit (reverse above))
  unfolding value_of
  family_values Histogram above sound whole = histogram_values Histogram above refl refl sound (whole refl)
  family_values GaugeHistogram above sound whole = histogram_values GaugeHistogram above refl refl sound (whole refl)
  family_values Counter above sound whole = all_made IsPlain st Counter family unit (reverse above) (λ own. plain_value (value_with family (counter_suffix st.format) own))
  family_values Gauge above sound whole = all_made IsPlain st Gauge family unit (reverse above) (λ own. plain_value (value_with family [] own))
  family_values StateSet above sound whole = all_made IsPlain st StateSet family unit (reverse above) (λ own. plain_value (value_with family [] own))
  family_values Info above sound whole = all_made IsPlain st Info family unit (reverse above) (λ own. plain_value (value_with family (codes "_info") own))
  family_values Unknown above sound whole = all_made IsPlain st Unknown family unit (reverse above) (λ own. plain_value (value_with family [] own))
  family_values Summary above sound are_whole = all_made IsQuantiles st Summary family unit (reverse above) (λ own. by own (list_any (is_measured family) own))
    where
      by : (own : List Sample) (b : Bool) → IfSome (cond b (Some (values.Quantiles (quantiles_of family own) (option_and_then whole (value_with family (codes "_count") own)) (sum_of family own))) None) IsQuantiles
      by own true = tt
      by own false = tt

-- ---- the page

-- a histogram that is complete has whole groups
whole_groups : (st : Setting) (kind : Kind) (family : List ℕ) (samples : List Sample) → AreSound st kind family samples
    → (is_histogram kind && not (list_all (is_complete_at st kind family samples) samples)) ≡ false → is_histogram kind ≡ true
    → list_all (λ (g : LabelSet × Gathered). is_whole_group g.1) (groups_from (map (entry_of st kind family) (reverse samples))) ≡ true
whole_groups st kind family samples sound complete histogram =
    let all : list_all (is_complete_at st kind family samples) samples ≡ true = not-false (list_all (is_complete_at st kind family samples) samples) (rw histogram at complete) in
    sym (whole_kept st kind family samples histogram sound) ∙ all

-- the readings of each family of lines without a fault have values of its kind
pub page_values : (st : Setting) (earlier : List Item) (clean : Bool) → AreFaultless st earlier → end_fault st earlier clean ≡ None
    → (family : List ℕ) → HaveValuesOf (family_of st (reverse (owned_lines st.format earlier)) family).kind (family_of st (reverse (owned_lines st.format earlier)) family).readings
unfolding family_of is_incomplete
page_values st earlier clean free none family =
    let above : List Owned = owned_lines st.format earlier in
    let unit : List ℕ = unwrap_or (first_some (unit_in family) (reverse above)) [] in
    let kind_is : kind_of (reverse above) family ≡ kind_of above family = kind_of_page st earlier family free in
    let samples_are : samples_of (reverse above) family ≡ reverse (samples_of above family) = reversed_samples above family in
    let sound : AreSound st (kind_of above family) family (samples_of above family) = sound_samples st above family (fit_lines st earlier free) in
    let values_are : HaveValuesOf (kind_of above family) (readings_of st (kind_of above family) family unit (reverse (samples_of above family))) =
    family_values st family unit (kind_of above family) (samples_of above family) sound (whole_groups st (kind_of above family) family (samples_of above family) sound (all_complete st earlier clean free none family)) in
    subst (λ (k : Kind). HaveValuesOf k (readings_of st k family unit (samples_of (reverse above) family))) (sym kind_is)
    (subst (λ (l : List Sample). HaveValuesOf (kind_of above family) (readings_of st (kind_of above family) family unit l)) (sym samples_are) values_are)
