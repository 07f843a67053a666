-- The rules that come last of a sample, and what is told of it, with what else it gives its group.
use Rattle.std.proofs.Common.{◌≡◌, ℕ, Bool, true, false, cond, not, ◌&&◌, ◌||◌, List, Option, Some, None, Ok, Err, refl, ap, ◌∙◌, count_by}
use Rattle.std.specs.Prelude.{nat_le}
use Rattle.std.specs.Option.{option_or}
use Rattle.label_sets.specs.declared.kind.Kind.{Kind}
use Rattle.page_model.specs.declared.item.Item.{Item}
use Rattle.page_model.specs.declared.item.Sample.{Sample}
use Rattle.page_model.specs.declared.rule.Rule.{Rule}
use Rattle.page_model.specs.declared.rule.Rule.TheVariants as rules
use Rattle.page_model.specs.Written.{Setting}
use Rattle.page_model.specs.Items.{is_sample}
use Rattle.page_model.specs.Suffixes.{is_sample_name}
use Rattle.page_model.specs.Owners.{kind_of, owned_lines, samples_of, kept_labels}
use Rattle.page_model.specs.Rules.{has_wrong_suffix, has_bad_value, has_bad_threshold, is_duplicate, is_past_limit}
use Rattle.sample_groups.specs.Parts.{is_grouped, part_of, sample_time, member_of}
use Rattle.family_rules.specs.KeyedValues.{is_key_of, samples_at_end, is_passed}
use Rattle.packed_keys.specs.declared.sample_key.SampleKey.{SampleKey}
use Rattle.family_rules.specs.Checking.{Checking, key_of, Stands}
use Rattle.family_rules.specs.Samples.{told_part, with_member, told_member}
use Rattle.family_rules.proofs.Faults.{left_fault, measure_fault}
use Rattle.family_rules.proofs.Joined.{seen_rule, plain_stop}
use Rattle.family_rules.proofs.Seen.{duplicate_seen}

-- ---- the rules that come last

pub or_none : (a : Option Rule) → option_or a None ≡ a
or_none None = refl
or_none (Some r) = refl

-- Interleaved or Duplicate, then what else is broken, then TooMany, by the lists
pub stop_kept : (st : Setting) (c : Checking) (earlier : List Item) (s : Sample) (own : ℕ) (broken : Option Rule) → Stands st c earlier
    → plain_stop c own (key_of c.setting s) broken
    ≡ cond (is_duplicate st (owned_lines st.format earlier) s) (Some (seen_rule own (kept_labels c.setting.treatment s.labels) c.seen)) (option_or broken (cond (is_past_limit st earlier) (Some rules.TooMany) None))
unfolding is_past_limit
stop_kept st c earlier s own broken stands =
    let double : is_key_of (key_of c.setting s) c.seen ≡ is_duplicate st (owned_lines st.format earlier) s =
    (λ i. is_key_of (key_of (stands.setting i) s) (stands.seen i)) ∙ duplicate_seen st (owned_lines st.format earlier) s in
    let past : nat_le c.setting.limit c.samples ≡ nat_le st.limit (count_by is_sample earlier) = λ i. nat_le (stands.setting i).limit (stands.samples i) in
    λ i. cond (double i) (Some (seen_rule own (kept_labels c.setting.treatment s.labels) c.seen)) (option_or broken (cond (past i) (Some rules.TooMany) None))

-- a rule that is broken refuses the sample
pub stop_some : (c : Checking) (own : ℕ) (key : SampleKey) (rule : Rule) → plain_stop c own key (Some rule) ≡ None → ⊥
stop_some c own key rule h = by (is_key_of key c.seen) h
  where
    by : (b : Bool) → cond b (Some (seen_rule own key.labels c.seen)) (Some rule) ≡ None → ⊥
    by true e = cc
    by false e = cc

-- the rules behind Duplicate
abbrev pub last_fault : Setting → List Item → List ℕ → Sample → Option Rule
last_fault st earlier F s = let above = owned_lines st.format earlier in
    option_or (option_or (measure_fault st (kind_of above F) F (samples_of above F) s) (left_fault st above (Some F))) (cond (is_past_limit st earlier) (Some rules.TooMany) None)

-- the rest of the rules, by what the kind forbids and by what is left
pub rest_kept : (st : Setting) (c : Checking) (earlier : List Item) (s : Sample) (F : List ℕ) (own : ℕ) (back : Bool) (measure left : Option Rule) → Stands st c earlier
    → is_passed (kept_labels c.setting.treatment s.labels) (samples_at_end own c.seen) ≡ back → measure ≡ measure_fault st (kind_of (owned_lines st.format earlier) F) F (samples_of (owned_lines st.format earlier) F) s → left ≡ left_fault st (owned_lines st.format earlier) (Some F)
    → plain_stop c own (key_of c.setting s) (option_or measure left) ≡ cond (is_duplicate st (owned_lines st.format earlier) s) (Some (cond back rules.Interleaved rules.Duplicate)) (last_fault st earlier F s)
rest_kept st c earlier s F own back measure left stands b m l = stop_kept st c earlier s own (option_or measure left) stands
    ∙ (λ i. cond (is_duplicate st (owned_lines st.format earlier) s) (Some (cond (b i) rules.Interleaved rules.Duplicate)) (option_or (option_or (m i) (l i)) (cond (is_past_limit st earlier) (Some rules.TooMany) None)))

-- Interleaved by the groups that have begun or by the samples that were seen, which alone tell it where each has a group of its own
pub back_first : (alone back double : Bool) (rest : Option Rule) → (alone ≡ true → double ≡ false → back ≡ false)
    → cond (not alone && back) (Some rules.Interleaved) (cond double (Some (cond (alone && back) rules.Interleaved rules.Duplicate)) rest) ≡ cond back (Some rules.Interleaved) (cond double (Some rules.Duplicate) rest)
back_first false true double rest h = refl
back_first false false double rest h = refl
back_first true true true rest h = refl
back_first true false true rest h = refl
back_first true false false rest h = refl
back_first true true false rest h = absurd (let f : true ≡ false = h refl refl in cc)

-- either of two tests refuses
pub either_refuses : {A : Type 0} (a b : Bool) (x r : A) → cond a x (cond b x r) ≡ cond (a || b) x r
either_refuses true b x r = refl
either_refuses false b x r = refl

-- no samples are asked
pub no_own : (b : Bool) → ◌≡◌ {A = ℕ} (cond b 0 0) 0
no_own true = refl
no_own false = refl

pub not_wrong : (st : Setting) (k : Kind) (F : List ℕ) (s : Sample) → is_sample_name st.format k F s.name ≡ true → has_wrong_suffix st k F s ≡ false
unfolding has_wrong_suffix
not_wrong st k F s h = ap not h

-- ---- what is told of a sample, with what else it gives its group

pub member_told : (st : Setting) (k : Kind) (F : List ℕ) (s : Sample) → with_member (sample_time st.format s) s.exemplar (told_part st k F s) ≡ told_member st k F s
member_told st k F s = by (has_bad_value st.format k F s) (has_bad_threshold k F s) (is_grouped st.format k)
  where
    by : (v t g : Bool) → with_member (sample_time st.format s) s.exemplar (cond v (Err rules.Value) (cond t (Err rules.Threshold) (Ok (cond g (Some (part_of F s)) None))))
        ≡ cond v (Err rules.Value) (cond t (Err rules.Threshold) (Ok (cond g (Some (member_of st.format F s)) None)))
    by true t g = refl
    by false true g = refl
    by false false true = refl
    by false false false = refl
