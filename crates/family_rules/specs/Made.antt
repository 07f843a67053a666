-- The page of what a checker keeps (the bridge's own).
use Rattle.std.specs.Prelude.{◌≡◌, ℕ, List, [], ◌∷◌, map, filter_map, None, unwrap_or, drop, take, if◌then◌else◌}
use Rattle.label_sets.specs.declared.kind.Kind.{Kind}
use Rattle.page_model.specs.declared.format.Format.{Format}
use Rattle.page_model.specs.declared.item.Item.{Item}
use Rattle.page_model.specs.declared.page.Family.{Family}
use Rattle.page_model.specs.declared.page.Reading.{Reading}
use Rattle.page_model.specs.declared.page.Value.TheVariants as values
use Rattle.page_model.specs.PageValues.{PageValue}
use Rattle.page_model.specs.Readings.{page_of}
use Rattle.page_model.specs.Written.{Setting}
use Rattle.sample_groups.specs.Groups.{reading_from}
use Rattle.sample_groups.specs.Parts.{is_grouped}
use Rattle.packed_keys.specs.declared.sample_key.SampleKey.{SampleKey}
use Rattle.family_rules.specs.declared.family.FamilySoFar.{FamilySoFar}
use Rattle.family_rules.specs.declared.timed_values.TimedValue.{TimedValue}
use Rattle.family_rules.specs.Checking.{Checking, kind_in}
use Rattle.family_rules.specs.Steps.{with_left}

-- the reading of a sample; a page without a fault gives such a sample no exemplar
abbrev pub plain_reading : Kind → List ℕ → SampleKey → TimedValue → Reading
plain_reading kind unit key value = record {
  key = record { name = key.name; kind = kind; unit = unit; labels = key.labels };
  value = values.Plain value.value;
  created = None;
  stamp = value.time;
  exemplars = [];
}

-- the readings of so many samples, which stand in front
abbrev pub readings_at : Kind → List ℕ → ℕ → List (SampleKey × TimedValue) → List Reading
readings_at kind unit count samples = map (λ (e : SampleKey × TimedValue). plain_reading kind unit e.0 e.1) (take count samples)

-- the readings of what is known of a family; its samples stand in front
abbrev pub readings_in : Format → List ℕ → FamilySoFar → List (SampleKey × TimedValue) → List Reading
readings_in format name f samples =
    if is_grouped format (kind_in f) then filter_map (reading_from format (kind_in f) name (unwrap_or f.unit [])) f.groups
    else readings_at (kind_in f) (unwrap_or f.unit []) f.samples samples

-- the family of what is known of it; its samples stand in front
abbrev pub family_at : Format → List ℕ → FamilySoFar → List (SampleKey × TimedValue) → Family
family_at format name f samples = record {
  name = name;
  kind = kind_in f;
  help = unwrap_or f.help [];
  unit = unwrap_or f.unit [];
  readings = readings_in format name f samples;
}

-- the families of what is known of each; their samples stand one family behind the other
unfoldable pub families_at : Format → List (List ℕ × FamilySoFar) → List (SampleKey × TimedValue) → List Family
families_at format [] samples = []
families_at format (e ∷ es) samples = family_at format e.0 e.1 samples ∷ families_at format es (drop e.1.samples samples)

-- the page of these lines has these families, and as many samples
abbrev pub ArePartsOf : Setting → List Item → List Family × ℕ → Type 0
ArePartsOf st earlier parts = page_of st earlier ≡ record { families = parts.0; samples = parts.1 }

-- the page of what is kept
unfoldable pub page_at : Checking → PageValue
page_at c = record { families = families_at c.setting.format (with_left c.left c.current) c.seen; samples = c.samples }
