-- Kinds without groups: each sample is a reading of its own, and its name has one suffix.
use Rattle.std.proofs.Common.{◌≡◌, ℕ, Bool, true, false, cond, not, ◌&&◌, ◌||◌, List, [], ◌∷◌, ◌++◌, drop, length, codes, Option, Some, None, Ok, Err, refl, sym, ap, ◌∙◌}
use Rattle.std.specs.Str.{bytes_eq}
use Rattle.std.specs.Cmp.Lexicographic.{bytes_decides}
use Rattle.std.proofs.lemmas.Bool.{not-false}
use Rattle.std.proofs.Math.Bool.{or-false}
use Rattle.exact_decimal.specs.Numbers.{number_of}
use Rattle.exact_decimal.specs.Order.{less, is_finite, is_not_a_number}
use Rattle.label_sets.specs.declared.kind.Kind.{Kind}
use Rattle.label_sets.specs.declared.kind.Kind.TheVariants.{Counter, Gauge, StateSet, Info, Unknown}
use Rattle.page_model.specs.declared.format.Format.{Format}
use Rattle.page_model.specs.declared.format.Format.TheVariants.{Text, OpenMetrics}
use Rattle.page_model.specs.declared.item.Sample.{Sample}
use Rattle.page_model.specs.declared.rule.Rule.{Rule}
use Rattle.page_model.specs.declared.rule.Rule.TheVariants as rules
use Rattle.page_model.specs.Written.{Setting}
use Rattle.page_model.specs.Suffixes.{is_sample_name}
use Rattle.page_model.specs.Rules.{is_open_metrics, has_suffix, has_wrong_suffix, has_forbidden_value, has_bad_value, has_bad_threshold, is_out_of_order}
use Rattle.sample_groups.specs.declared.part.Part.{Part}
use Rattle.sample_groups.specs.Parts.{is_grouped, part_of}
use Rattle.sample_groups.specs.Finding.{grouped_part}
use Rattle.family_rules.specs.declared.family.Current.{Current}
use Rattle.family_rules.specs.declared.family.FamilySoFar.{FamilySoFar}
use Rattle.family_rules.specs.Samples.{is_bad_plain_value, told_part}

-- the suffix of the samples of a kind without groups
abbrev pub single_suffix : Kind → List ℕ
single_suffix Info = codes "_info"
single_suffix _ = []

-- ---- names

-- what stands behind a front
pub behind_front : (front rest : List ℕ) → drop (length front) (front ++ rest) ≡ rest
behind_front [] rest = refl
behind_front (x ∷ xs) rest = behind_front xs rest

-- a sample's name has this suffix where it is the family's and this one
pub suffix_is : (F rest suffix : List ℕ) (s : Sample) → s.name ≡ F ++ rest → has_suffix F suffix s ≡ bytes_eq rest suffix
suffix_is F rest suffix s name = ap (λ n. bytes_eq (drop (length F) n) suffix) name ∙ ap (λ l. bytes_eq l suffix) (behind_front F rest)

plain_suffix : (f : Format) (k : Kind) (F name : List ℕ) → is_grouped f k ≡ false → is_sample_name f k F name ≡ (bytes_eq name (F ++ single_suffix k) || false)
plain_suffix Text Counter F name h = refl
plain_suffix OpenMetrics Counter F name h = absurd (let e : true ≡ false = h in cc)
plain_suffix f Gauge F name h = refl
plain_suffix f Unknown F name h = refl
plain_suffix f StateSet F name h = refl
plain_suffix f Info F name h = refl
plain_suffix f _ F name h = absurd (let e : true ≡ false = h in cc)

-- a sample of such a kind has the name of its family and that suffix
pub plain_name : (st : Setting) (k : Kind) (F : List ℕ) (s : Sample) → is_grouped st.format k ≡ false → has_wrong_suffix st k F s ≡ false → s.name ≡ F ++ single_suffix k
unfolding has_wrong_suffix
plain_name st k F s plain h =
    let same : bytes_eq s.name (F ++ single_suffix k) ≡ true = sym (or-false (bytes_eq s.name (F ++ single_suffix k))) ∙ sym (plain_suffix st.format k F s.name plain) ∙ not-false (is_sample_name st.format k F s.name) h in
    (bytes_decides s.name (F ++ single_suffix k)).0 same

-- a format in which a counter has no groups
pub ungrouped_counter : (f : Format) → is_grouped f Counter ≡ false → f ≡ Text
ungrouped_counter Text h = refl
ungrouped_counter OpenMetrics h = absurd (let e : true ≡ false = h in cc)

-- ---- rules

pub no_created : (k : Kind) → bytes_eq (single_suffix k) (codes "_created") ≡ false
no_created Info = refl
no_created _ = refl

cleared : (a o n : Bool) → (a || (o && false && n)) ≡ a
cleared true o n = refl
cleared false true n = refl
cleared false false n = refl

forbidden_plain : (f : Format) (k : Kind) (F : List ℕ) (s : Sample) → is_grouped f k ≡ false → s.name ≡ F ++ single_suffix k → has_forbidden_value k F s ≡ is_bad_plain_value k F s
unfolding has_forbidden_value is_bad_plain_value
forbidden_plain f Counter F s h name = ap (λ b. b && (is_not_a_number s.value || less s.value (number_of 0))) (suffix_is F [] (codes "_total") s name)
forbidden_plain f Gauge F s h name = refl
forbidden_plain f Unknown F s h name = refl
forbidden_plain f StateSet F s h name = refl
forbidden_plain f Info F s h name = refl
forbidden_plain f _ F s h name = absurd (let e : true ≡ false = h in cc)

-- Value, of a kind without groups
pub plain_value : (st : Setting) (k : Kind) (F : List ℕ) (s : Sample) → is_grouped st.format k ≡ false → s.name ≡ F ++ single_suffix k → has_bad_value st.format k F s ≡ is_bad_plain_value k F s
unfolding has_bad_value
plain_value st k F s h name =
    ap (λ b. has_forbidden_value k F s || (is_open_metrics st.format && b && not (is_finite s.value))) (suffix_is F (single_suffix k) (codes "_created") s name ∙ no_created k)
    ∙ cleared (has_forbidden_value k F s) (is_open_metrics st.format) (not (is_finite s.value)) ∙ forbidden_plain st.format k F s h name

pub plain_threshold : (f : Format) (k : Kind) (F : List ℕ) (s : Sample) → is_grouped f k ≡ false → has_bad_threshold k F s ≡ false
unfolding has_bad_threshold
plain_threshold f Counter F s h = refl
plain_threshold f Gauge F s h = refl
plain_threshold f Unknown F s h = refl
plain_threshold f StateSet F s h = refl
plain_threshold f Info F s h = refl
plain_threshold f _ F s h = absurd (let e : true ≡ false = h in cc)

pub plain_order : (st : Setting) (k : Kind) (F : List ℕ) (samples : List Sample) (s : Sample) → is_grouped st.format k ≡ false → is_out_of_order st k F samples s ≡ false
unfolding is_out_of_order
plain_order st Counter F samples s h = refl
plain_order st Gauge F samples s h = refl
plain_order st Unknown F samples s h = refl
plain_order st StateSet F samples s h = refl
plain_order st Info F samples s h = refl
plain_order st _ F samples s h = absurd (let e : true ≡ false = h in cc)

-- ---- what is told of a sample

-- of one without a group
plain_told : (st : Setting) (k : Kind) (F : List ℕ) (s : Sample) → has_wrong_suffix st k F s ≡ false → is_grouped st.format k ≡ false
    → told_part st k F s ≡ cond (is_bad_plain_value k F s) (Err rules.Value) (Ok None)
plain_told st k F s named plain =
    let value = plain_value st k F s plain (plain_name st k F s plain named) in
    let place = plain_threshold st.format k F s plain in
    λ i. cond (value i) (Err rules.Value) (cond (place i) (Err rules.Threshold) (Ok (cond (plain i) (Some (part_of F s)) None)))

module _ (st : Setting) (k : Kind) (F : List ℕ) (s : Sample) (named : has_wrong_suffix st k F s ≡ false) where
  pub told_value : is_grouped st.format k ≡ false → is_bad_plain_value k F s ≡ true → Err rules.Value ≡ told_part st k F s
  told_value plain bad = sym (plain_told st k F s named plain ∙ ap (λ b. cond b (Err rules.Value) (Ok None)) bad)

  pub told_none : is_grouped st.format k ≡ false → is_bad_plain_value k F s ≡ false → Ok None ≡ told_part st k F s
  told_none plain good = sym (plain_told st k F s named plain ∙ ap (λ b. cond b (Err rules.Value) (Ok None)) good)

  -- of one with a group
  pub told_some : (part : Part) → is_grouped st.format k ≡ true → Ok part ≡ grouped_part st.format k F s → Ok (Some part) ≡ told_part st k F s
  told_some part h told = by (has_bad_value st.format k F s) (has_bad_threshold k F s) told
    where
      by : (v t : Bool) → Ok part ≡ cond v (Err rules.Value) (cond t (Err rules.Threshold) (Ok (part_of F s)))
          → Ok (Some part) ≡ cond v (Err rules.Value) (cond t (Err rules.Threshold) (Ok (cond (is_grouped st.format k) (Some (part_of F s)) None)))
      by true t e = absurd cc
      by false true e = absurd cc
      by false false e = let same : part ≡ part_of F s = cc in λ i. Ok (cond (sym h i) (Some (same i)) None)

  pub told_refused : (rule : Rule) → Err rule ≡ grouped_part st.format k F s → Err rule ≡ told_part st k F s
  told_refused rule told = by (has_bad_value st.format k F s) (has_bad_threshold k F s) told
    where
      by : (v t : Bool) → Err rule ≡ cond v (Err rules.Value) (cond t (Err rules.Threshold) (Ok (part_of F s)))
          → Err rule ≡ cond v (Err rules.Value) (cond t (Err rules.Threshold) (Ok (cond (is_grouped st.format k) (Some (part_of F s)) None)))
      by true t e = let same : rule ≡ rules.Value = cc in ap Err same
      by false true e = let same : rule ≡ rules.Threshold = cc in ap Err same
      by false false e = absurd cc

-- ---- the name of the current family

abbrev name_in : Option Current → List ℕ
name_in None = []
name_in (Some k) = k.name

pub same_name : (k : Current) (family : List ℕ) (f : FamilySoFar) → Some k ≡ Some (record { name = family; family = f }) → k.name ≡ family
same_name k family f h = ap name_in h
