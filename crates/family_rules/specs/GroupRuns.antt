-- The groups of a family, in the order in which they begin.
-- OpenMetrics 1.0, "Metric": the samples of one group stand together.
use Rattle.std.specs.Prelude.{◌≡◌, ⊤, ℕ, Bool, true, false, not, ◌&&◌, List, [], ◌∷◌, ◌++◌, map, reverse, Option, None, Some, if◌then◌else◌}
use Rattle.std.specs.List.{list_any}
use Rattle.label_sets.specs.declared.kind.Kind.{Kind}
use Rattle.label_sets.specs.declared.kind.Kind.TheVariants.{Gauge, Unknown, Info, StateSet}
use Rattle.label_sets.specs.declared.label_set.LabelSet.{LabelSet}
use Rattle.label_sets.specs.Labels.{label_sets_eq}
use Rattle.label_sets.specs.Lists.{first_of_each, some_passes}
use Rattle.packed_keys.specs.declared.sample_key.SampleKey.{SampleKey}
use Rattle.packed_keys.specs.Packing.{sample_key_eq}
use Rattle.page_model.specs.declared.format.Format.{Format}
use Rattle.page_model.specs.declared.item.Sample.{Sample}
use Rattle.page_model.specs.Written.{Setting}
use Rattle.page_model.specs.Owners.{Owned, kind_of, samples_of}
use Rattle.page_model.specs.Rules.{is_open_metrics, sample_group}

-- the groups that have begun, and the labels of the group of the nearest sample
pub record Runs : Type 0 where
  pub begun : List SampleKey
  pub nearest : Option LabelSet

-- without a nearest sample no group has begun
abbrev pub StartsEmpty : Option LabelSet → List SampleKey → Type 0
StartsEmpty None begun = begun ≡ []
StartsEmpty (Some labels) begun = ⊤

-- no group has begun
abbrev pub no_runs : Runs
no_runs = record { begun = []; nearest = None }

-- each sample of this kind has one name and a group of its own: its labels are those of its group
abbrev pub is_alone : Kind → Bool
is_alone Gauge = true
is_alone Unknown = true
is_alone Info = true
is_alone _ = false

-- samples of this kind share groups that make no readings, so that nothing else tells which have begun
abbrev pub has_own_runs : Kind → Bool
has_own_runs StateSet = true
has_own_runs _ = false

-- the groups of this kind that have begun are kept: the format has the rule, and nothing else tells them
abbrev pub has_runs : Format → Kind → Bool
has_runs f kind = if has_own_runs kind then is_open_metrics f else false

-- what tells a group from the others: its family and the labels that its samples share
abbrev pub group_key : List ℕ → LabelSet → SampleKey
group_key family labels = record { name = family; labels = labels }

-- the groups of a family's samples, the nearest first
unfoldable pub runs_from : Setting → Kind → List ℕ → List Sample → Runs
runs_from st kind family [] = no_runs
runs_from st kind family (nearest ∷ samples) = record {
  begun = first_of_each sample_key_eq (map (λ s. group_key family (sample_group st kind family s)) (reverse (nearest ∷ samples)));
  nearest = Some (sample_group st kind family nearest);
}

-- the groups of the samples of a family, where they are kept
unfoldable pub runs_of : Setting → List Owned → List ℕ → Runs
runs_of st above family = if has_runs st.format (kind_of above family) then runs_from st (kind_of above family) family (samples_of above family) else no_runs

-- the groups of the samples of the nearest line's family
unfoldable pub nearest_runs : Setting → List Owned → Runs
nearest_runs st [] = no_runs
nearest_runs st (nearest ∷ above) = runs_of st (nearest ∷ above) nearest.family

-- the nearest sample is of the group with these labels
abbrev pub is_of_nearest : Runs → LabelSet → Bool
is_of_nearest r labels = some_passes (λ n. label_sets_eq n labels) r.nearest

-- the group has begun, and the nearest sample is of another
abbrev pub goes_back : Runs → SampleKey → Bool
goes_back r key = some_passes (λ n. not (label_sets_eq n key.labels)) r.nearest && list_any (sample_key_eq key) r.begun

-- the groups with a sample of this one more
abbrev pub with_group : Runs → SampleKey → Runs
with_group r key = if is_of_nearest r key.labels then r
    else record { begun = if list_any (sample_key_eq key) r.begun then r.begun else r.begun ++ key ∷ []; nearest = Some key.labels }
