-- The samples that were seen answer rule Interleaved, where each has a group of its own.
use Rattle.std.proofs.Common.{◌≡◌, ◌+◌, ◌-◌, arith, ℕ, Bool, true, false, cond, not, ◌&&◌, ◌||◌, List, [], ◌∷◌, ◌++◌, map, reverse, length, length-append, refl, sym, ap, ◌∙◌}
use Rattle.std.specs.List.{list_any, flat_map}
use Rattle.std.proofs.lemmas.List.{map-append, drop_all, drop_at, length-map}
use Rattle.std.proofs.lemmas.Bool.{or_parts}
use Rattle.std.proofs.Math.Bool.{and-false}
use Rattle.label_sets.specs.declared.kind.Kind.{Kind}
use Rattle.label_sets.specs.declared.kind.Kind.TheVariants.{Gauge, Unknown, Info}
use Rattle.label_sets.specs.declared.label_set.LabelSet.{LabelSet}
use Rattle.label_sets.specs.Labels.{label_sets_eq}
use Rattle.label_sets.proofs.Laws.{any-map, any-reverse}
use Rattle.packed_keys.specs.declared.sample_key.SampleKey.{SampleKey}
use Rattle.page_model.specs.declared.format.Format.{Format}
use Rattle.page_model.specs.declared.item.Item.TheVariants as items
use Rattle.page_model.specs.declared.item.Sample.{Sample}
use Rattle.page_model.specs.Written.{Setting}
use Rattle.page_model.specs.Owners.{Owned, kind_of, samples_of, group_of}
use Rattle.page_model.specs.Rules.{is_open_metrics, is_split, is_interleaved, is_duplicate, in_one_group, has_wrong_suffix}
use Rattle.sample_groups.specs.Parts.{is_grouped}
use Rattle.family_rules.specs.declared.timed_values.TimedValue.{TimedValue}
use Rattle.family_rules.specs.GroupRuns.{is_alone}
use Rattle.family_rules.specs.KeyedValues.{samples_at_end, passed_from, is_passed}
use Rattle.family_rules.specs.Checking.{keyed, seen_above, left_before}
use Rattle.family_rules.proofs.Faults.{AreFit, sound_samples}
use Rattle.family_rules.proofs.Kept.{reversed_samples}
use Rattle.family_rules.proofs.Plain.{single_suffix, plain_name}
use Rattle.family_rules.proofs.Built.{kept, AreNamed, plain_names, no_same, seen_in, seen_before, together}
use mathlib.Core.List.{reverse-cons}

-- ---- samples at the end

pub last_none : (samples : List (SampleKey × TimedValue)) → samples_at_end 0 samples ≡ []
last_none samples = drop_all (length samples - 0) samples (omega arith)

last_own : (front own : List (SampleKey × TimedValue)) (count : ℕ) → length own ≡ count → samples_at_end count (front ++ own) ≡ own
last_own front own count h = let both : length (front ++ own) ≡ length front + length own = length-append front own in
    drop_at front own (length (front ++ own) - count) (omega (arith, both, h))

-- those of a family are the last ones
last_samples : (st : Setting) (above : List Owned) (F : List ℕ) (s : Sample) → AreFit st above → is_split above (record { family = F; item = items.Sample s }) ≡ false
    → samples_at_end (length (samples_of (reverse above) F)) (seen_above st above) ≡ map (keyed st) (reverse (samples_of above F))
last_samples st above F s fit free =
    let front : List (SampleKey × TimedValue) = flat_map (seen_in st above) (left_before F above) in
    let seen : seen_above st above ≡ front ++ seen_in st above F = together st above fit ∙ seen_before st F (items.Sample s) above fit free in
    ap (samples_at_end (length (samples_of (reverse above) F))) seen
    ∙ last_own front (seen_in st above F) (length (samples_of (reverse above) F)) (length-map (samples_of (reverse above) F) (keyed st))
    ∙ ap (map (keyed st)) (reversed_samples above F)

-- ---- one that goes back

regrouped : (a s l e : Bool) → ((a || s) || (l || e)) ≡ (a || ((s || l) || e))
regrouped true s l e = refl
regrouped false true l e = refl
regrouped false false l e = refl

passed_more : (labels : LabelSet) (any last : Bool) (xs : List (SampleKey × TimedValue)) (e : SampleKey × TimedValue) → passed_from labels any last (xs ++ e ∷ [])
    ≡ ((any || (list_any (λ (t : SampleKey × TimedValue). label_sets_eq t.0.labels labels) xs || label_sets_eq e.0.labels labels)) && not (label_sets_eq e.0.labels labels))
passed_more labels any last [] e = refl
passed_more labels any last (x ∷ xs) e = passed_more labels (any || label_sets_eq x.0.labels labels) (label_sets_eq x.0.labels labels) xs e
    ∙ ap (λ b. b && not (label_sets_eq e.0.labels labels)) (regrouped any (label_sets_eq x.0.labels labels) (list_any (λ (t : SampleKey × TimedValue). label_sets_eq t.0.labels labels) xs) (label_sets_eq e.0.labels labels))

turned : (l n : Bool) → ((l || n) && not n) ≡ (not n && l)
turned true true = refl
turned true false = refl
turned false true = refl
turned false false = refl

grouped_left : (o a l : Bool) → (o && (not a && l)) ≡ (o && not a && l)
grouped_left true a l = refl
grouped_left false a l = refl

group_alone : (k : Kind) (F : List ℕ) (labels : LabelSet) → is_alone k ≡ true → group_of k F labels ≡ labels
group_alone Gauge F labels h = refl
group_alone Unknown F labels h = refl
group_alone Info F labels h = refl
group_alone _ F labels h = absurd (let f : false ≡ true = h in cc)

alone_plain : (f : Format) (k : Kind) → is_alone k ≡ true → is_grouped f k ≡ false
alone_plain f Gauge h = refl
alone_plain f Unknown h = refl
alone_plain f Info h = refl
alone_plain f _ h = absurd (let g : false ≡ true = h in cc)

module _ (st : Setting) where
  passed_reverse : (labels : LabelSet) (n : Sample) (samples : List Sample)
      → is_passed labels (map (keyed st) (reverse (n ∷ samples))) ≡ (not (label_sets_eq (kept st n) labels) && list_any (λ t. label_sets_eq (kept st t) labels) samples)
  passed_reverse labels n samples =
      ap (λ l. is_passed labels (map (keyed st) l)) (reverse-cons n samples)
      ∙ ap (is_passed labels) (map-append (keyed st) (reverse samples) (n ∷ []))
      ∙ passed_more labels false false (map (keyed st) (reverse samples)) (keyed st n)
      ∙ ap (λ l. (l || label_sets_eq (kept st n) labels) && not (label_sets_eq (kept st n) labels))
      (any-map (λ (t : SampleKey × TimedValue). label_sets_eq t.0.labels labels) (keyed st) (reverse samples) ∙ any-reverse (λ t. label_sets_eq (kept st t) labels) samples)
      ∙ turned (list_any (λ t. label_sets_eq (kept st t) labels) samples) (label_sets_eq (kept st n) labels)

  module _ (k : Kind) (F : List ℕ) (s : Sample) (alone : is_alone k ≡ true) where
    interleaved_alone : (samples : List Sample) → is_interleaved st k F samples s ≡ (is_open_metrics st.format && is_passed (kept st s) (map (keyed st) (reverse samples)))
    unfolding is_interleaved
    interleaved_alone [] = sym (and-false (is_open_metrics st.format))
    interleaved_alone (n ∷ samples) =
        (λ i. is_open_metrics st.format && not (label_sets_eq (group_alone k F (kept st n) alone i) (group_alone k F (kept st s) alone i))
        && list_any (λ t. label_sets_eq (group_alone k F (kept st t) alone i) (group_alone k F (kept st s) alone i)) samples)
        ∙ sym (grouped_left (is_open_metrics st.format) (label_sets_eq (kept st n) (kept st s)) (list_any (λ t. label_sets_eq (kept st t) (kept st s)) samples))
        ∙ ap (λ b. is_open_metrics st.format && b) (sym (passed_reverse (kept st s) n samples))

    none_interleaved : (samples : List Sample) → list_any (λ t. label_sets_eq (kept st t) (kept st s)) samples ≡ false → is_interleaved st k F samples s ≡ false
    unfolding is_interleaved
    none_interleaved [] h = refl
    none_interleaved (n ∷ samples) h =
        let others : list_any (λ t. label_sets_eq (kept st t) (kept st s)) samples ≡ false = (or_parts (label_sets_eq (kept st n) (kept st s)) (list_any (λ t. label_sets_eq (kept st t) (kept st s)) samples) h).1 in
        (λ i. is_open_metrics st.format && not (in_one_group st k F n s) && list_any (λ t. label_sets_eq (group_alone k F (kept st t) alone i) (group_alone k F (kept st s) alone i)) samples)
        ∙ ap (λ b. is_open_metrics st.format && not (in_one_group st k F n s) && b) others ∙ and-false (is_open_metrics st.format && not (in_one_group st k F n s))

-- a sample that goes back has a key that was seen
pub back_seen : (st : Setting) (above : List Owned) (F : List ℕ) (s : Sample) → AreFit st above → has_wrong_suffix st (kind_of above F) F s ≡ false
    → is_alone (kind_of above F) ≡ true → is_duplicate st above s ≡ false → is_interleaved st (kind_of above F) F (samples_of above F) s ≡ false
back_seen st above F s fit named alone single =
    let K : Kind = kind_of above F in
    let plain : is_grouped st.format K ≡ false = alone_plain st.format K alone in
    let names : AreNamed st (F ++ single_suffix K) (samples_of above F) = plain_names st K F (samples_of above F) plain (sound_samples st above F fit) in
    none_interleaved st K F s alone (samples_of above F) (no_same st F (F ++ single_suffix K) above s names (plain_name st K F s plain named) single)

-- Interleaved, by the samples of the family at the end
pub interleaved_passed : (st : Setting) (above : List Owned) (F : List ℕ) (s : Sample) → AreFit st above → is_split above (record { family = F; item = items.Sample s }) ≡ false
    → is_passed (kept st s) (samples_at_end (cond (is_open_metrics st.format && is_alone (kind_of above F)) (length (samples_of (reverse above) F)) 0) (seen_above st above))
    ≡ (is_alone (kind_of above F) && is_interleaved st (kind_of above F) F (samples_of above F) s)
interleaved_passed st above F s fit free = by (is_open_metrics st.format) (is_alone (kind_of above F)) refl refl
  where
    by : (o a : Bool) → is_open_metrics st.format ≡ o → is_alone (kind_of above F) ≡ a
        → is_passed (kept st s) (samples_at_end (cond (o && a) (length (samples_of (reverse above) F)) 0) (seen_above st above)) ≡ (a && is_interleaved st (kind_of above F) F (samples_of above F) s)
    by true true e alone = ap (is_passed (kept st s)) (last_samples st above F s fit free)
        ∙ sym (interleaved_alone st (kind_of above F) F s alone (samples_of above F) ∙ ap (λ b. b && is_passed (kept st s) (map (keyed st) (reverse (samples_of above F)))) e)
    by true false e alone = ap (is_passed (kept st s)) (last_none (seen_above st above))
    by false true e alone = ap (is_passed (kept st s)) (last_none (seen_above st above))
        ∙ sym (interleaved_alone st (kind_of above F) F s alone (samples_of above F) ∙ ap (λ b. b && is_passed (kept st s) (map (keyed st) (reverse (samples_of above F)))) e)
    by false false e alone = ap (is_passed (kept st s)) (last_none (seen_above st above))
