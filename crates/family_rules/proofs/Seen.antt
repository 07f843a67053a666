-- The samples that were seen answer rule Duplicate.
use Rattle.std.proofs.Common.{◌≡◌, ◌&&◌, ◌||◌, List, [], ◌∷◌, Option, Some, None, refl, ap, ◌∙◌}
use Rattle.std.specs.Prelude.{option_map}
use Rattle.std.specs.Option.{option_to_list}
use Rattle.std.specs.Str.{bytes_eq}
use Rattle.std.proofs.lemmas.List.Folds.{list_any-append}
use Rattle.std.proofs.Math.Bool.{or-false}
use Rattle.label_sets.specs.Labels.{label_sets_eq}
use Rattle.label_sets.specs.Lists.{some_passes}
use Rattle.label_sets.proofs.Laws.{bytes_eq-swap}
use Rattle.page_model.specs.declared.item.Sample.{Sample}
use Rattle.page_model.specs.Written.{Setting}
use Rattle.page_model.specs.Items.{sample_of_line}
use Rattle.page_model.specs.Owners.{Owned, kept_labels}
use Rattle.page_model.specs.Rules.{is_same_series, is_duplicate}
use Rattle.packed_keys.specs.declared.sample_key.SampleKey.{SampleKey}
use Rattle.packed_keys.specs.Packing.{sample_key_eq}
use Rattle.family_rules.specs.declared.timed_values.TimedValue.{TimedValue}
use Rattle.family_rules.specs.KeyedValues.{is_key_of}
use Rattle.family_rules.specs.Checking.{key_of, keyed, seen_above}
use Rattle.family_rules.proofs.Lists.{or_comm, label_sets_swap}

key_same : (st : Setting) (s t : Sample) → sample_key_eq (key_of st s) (key_of st t) ≡ is_same_series st s t
key_same st s t = ap (λ b. b && label_sets_eq (kept_labels st.treatment s.labels) (kept_labels st.treatment t.labels)) (bytes_eq-swap s.name t.name)
    ∙ ap (λ b. bytes_eq t.name s.name && b) (label_sets_swap (kept_labels st.treatment s.labels) (kept_labels st.treatment t.labels))

-- Duplicate, by what was seen
pub duplicate_seen : (st : Setting) (above : List Owned) (s : Sample) → is_key_of (key_of st s) (seen_above st above) ≡ is_duplicate st above s
unfolding seen_above is_duplicate
duplicate_seen st [] s = refl
duplicate_seen st (o ∷ above) s =
    list_any-append (λ (e : SampleKey × TimedValue). sample_key_eq (key_of st s) e.0) (seen_above st above) (option_to_list (option_map (keyed st) (sample_of_line o.item)))
    ∙ or_comm (is_key_of (key_of st s) (seen_above st above)) (is_key_of (key_of st s) (option_to_list (option_map (keyed st) (sample_of_line o.item))))
    ∙ ap (λ b. b || is_key_of (key_of st s) (seen_above st above)) (by (sample_of_line o.item))
    ∙ ap (λ b. some_passes (is_same_series st s) (sample_of_line o.item) || b) (duplicate_seen st above s)
  where
    by : (t : Option Sample) → is_key_of (key_of st s) (option_to_list (option_map (keyed st) t)) ≡ some_passes (is_same_series st s) t
    by None = refl
    by (Some t) = or-false (sample_key_eq (key_of st s) (key_of st t)) ∙ key_same st s t
