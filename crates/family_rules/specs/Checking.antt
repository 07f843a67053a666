-- What a checker keeps of the lines above, and which lines it stands for. Lists of earlier lines have the nearest first.
-- Prometheus text format 0.0.4, "Grouping and sorting": the lines of a family stand together, so only the family of the nearest line goes on.
use Rattle.std.specs.Prelude.{◌≡◌, ℕ, Bool, not, List, [], ◌∷◌, ◌++◌, map, reverse, count_by, Option, Some, None, option_map, unwrap_or, Result, Ok, Err, ⊤, if◌then◌else◌, length, ◌==◌}
use Rattle.std.specs.List.{list_any}
use Rattle.std.specs.Option.{option_to_list}
use Rattle.label_sets.specs.declared.kind.Kind.{Kind}
use Rattle.label_sets.specs.declared.kind.Kind.TheVariants.{Unknown}
use Rattle.label_sets.specs.declared.label_set.LabelSet.{LabelSet}
use Rattle.label_sets.specs.Lists.{first_some}
use Rattle.page_model.specs.declared.item.Item.{Item}
use Rattle.page_model.specs.declared.item.Sample.{Sample}
use Rattle.page_model.specs.declared.fault.PageFault.{PageFault}
use Rattle.page_model.specs.declared.fault.PageFault.TheVariants as faults
use Rattle.page_model.specs.declared.rule.Rule.{Rule}
use Rattle.page_model.specs.Written.{Setting}
use Rattle.page_model.specs.Items.{is_eof, is_sample, sample_of_line}
use Rattle.page_model.specs.Owners.{Owned, is_of, declared_kind, kind_of, owned_lines, samples_of, kept_labels}
use Rattle.page_model.specs.Pages.{AreFaultless}
use Rattle.page_model.specs.Readings.{help_in, unit_in}
use Rattle.sample_groups.specs.Groups.{Gathered, groups_from}
use Rattle.sample_groups.specs.Parts.{is_grouped, sample_time, entry_of}
use Rattle.family_rules.specs.declared.family.Current.{Current}
use Rattle.family_rules.specs.declared.family.FamilySoFar.{FamilySoFar}
use Rattle.family_rules.specs.GroupRuns.{Runs, nearest_runs}
use Rattle.family_rules.specs.declared.timed_values.TimedValue.{TimedValue}
use Rattle.packed_keys.specs.declared.sample_key.SampleKey.{SampleKey}

-- ---- what is kept

-- a checker as its contracts see it
pub record Checking : Type 0 where
  pub setting : Setting
  pub left : List (List ℕ × FamilySoFar)
  pub current : Option Current
  pub runs : Runs
  pub seen : List (SampleKey × TimedValue)
  pub samples : ℕ
  pub ended : Bool
  pub stopped : Option PageFault

-- a family without lines
abbrev pub no_lines : FamilySoFar
no_lines = record { help = None; kind = None; unit = None; samples = 0; groups = [] }

-- the kind of a family
abbrev pub kind_in : FamilySoFar → Kind
kind_in f = unwrap_or f.kind Unknown

-- the family has a sample
abbrev pub has_samples : FamilySoFar → Bool
has_samples f = not (f.samples == 0)

-- ---- what the lines above come to

-- the groups of samples, where their kind has groups
unfoldable pub groups_so_far : Setting → Kind → List ℕ → List Sample → List (LabelSet × Gathered)
groups_so_far st kind family samples = if is_grouped st.format kind then groups_from (map (entry_of st kind family) samples) else []

-- what is known of a family from these lines
unfoldable pub so_far : Setting → List Owned → List ℕ → FamilySoFar
so_far st above family = record {
  help = first_some (help_in family) above;
  kind = first_some (declared_kind family) above;
  unit = first_some (unit_in family) above;
  samples = length (samples_of (reverse above) family);
  groups = groups_so_far st (kind_of above family) family (samples_of (reverse above) family);
}

-- the families that were left before a line of this family, in the order in which they were left
unfoldable pub left_before : List ℕ → List Owned → List (List ℕ)
left_before family [] = []
left_before family (nearest ∷ above) =
    if is_of family nearest then left_before nearest.family above else left_before nearest.family above ++ nearest.family ∷ []

-- the families that were left before the nearest line
unfoldable pub left_families : List Owned → List (List ℕ)
left_families [] = []
left_families (nearest ∷ above) = left_before nearest.family above

-- the family of the nearest line
unfoldable pub current_family : Setting → List Owned → Option Current
current_family st [] = None
current_family st (nearest ∷ above) = Some (record { name = nearest.family; family = so_far st (nearest ∷ above) nearest.family })

-- what tells a sample from the others of a page
abbrev pub key_of : Setting → Sample → SampleKey
key_of st s = record { name = s.name; labels = kept_labels st.treatment s.labels }

-- its value with its time
abbrev pub timed : Setting → Sample → TimedValue
timed st s = record { value = s.value; time = sample_time st.format s }

-- a sample as its key and its value with its time
abbrev pub keyed : Setting → Sample → SampleKey × TimedValue
keyed st s = (key_of st s, timed st s)

-- the samples in the order of their lines, each as its key and its value with its time
unfoldable pub seen_above : Setting → List Owned → List (SampleKey × TimedValue)
seen_above st [] = []
seen_above st (o ∷ above) = seen_above st above ++ option_to_list (option_map (keyed st) (sample_of_line o.item))

-- ---- what a checker stands for

-- the checker has taken these items, the nearest first, and refused none
pub record Stands (st : Setting) (c : Checking) (earlier : List Item) : Type 0 where
  pub setting : c.setting ≡ st
  pub left : c.left ≡ map (λ family. (family, so_far st (owned_lines st.format earlier) family)) (left_families (owned_lines st.format earlier))
  pub current : c.current ≡ current_family st (owned_lines st.format earlier)
  pub runs : c.runs ≡ nearest_runs st (owned_lines st.format earlier)
  pub seen : c.seen ≡ seen_above st (owned_lines st.format earlier)
  pub samples : c.samples ≡ count_by is_sample earlier
  pub ended : c.ended ≡ list_any is_eof earlier
  pub working : c.stopped ≡ None
  pub faultless : AreFaultless st earlier

-- the checker has refused, or wanted memory, and answers this
abbrev pub HasStopped : Checking → PageFault → Type 0
HasStopped c fault = c.stopped ≡ Some fault

-- the answer to a line with this fault, but for want of memory
abbrev pub Answers : {A : Type 0} → ℕ → Option Rule → Result A PageFault → Type 0
Answers line fault (Ok x) = fault ≡ None
Answers line fault (Err (faults.Refused l rule)) = (l ≡ line) × (fault ≡ Some rule)
Answers line fault (Err faults.Memory) = ⊤

-- the fault of the end, but for want of memory
abbrev pub TellsEnd : ℕ → Option Rule → Option PageFault → Type 0
TellsEnd line fault None = fault ≡ None
TellsEnd line fault (Some (faults.Refused l rule)) = (l ≡ line) × (fault ≡ Some rule)
TellsEnd line fault (Some faults.Memory) = ⊤
