-- The family that owns a line, seen from the lines above it. Lists of earlier lines have the nearest first.
-- Prometheus text format 0.0.4, "Grouping and sorting" (the lines of one metric stand as one group);
-- OpenMetrics 1.0, "MetricFamily" (the name of a sample is that of its family and a suffix of its type).
use Rattle.std.specs.Prelude.{ℕ, Bool, List, [], ◌∷◌, codes, Option, Some, None, filter_map, unwrap_or, if◌then◌else◌}
use Rattle.std.specs.Str.{bytes_eq}
use Rattle.label_sets.specs.declared.kind.Kind.{Kind}
use Rattle.label_sets.specs.declared.kind.Kind.TheVariants.{Histogram, GaugeHistogram, StateSet, Summary, Unknown}
use Rattle.label_sets.specs.declared.label_set.LabelSet.{LabelSet}
use Rattle.label_sets.specs.Lists.{first_some}
use Rattle.label_sets.specs.Labels.{renamed, without_label}
use Rattle.page_model.specs.declared.format.Format.{Format}
use Rattle.page_model.specs.declared.format.Treatment.{Treatment}
use Rattle.page_model.specs.declared.format.Treatment.TheVariants as treatments
use Rattle.page_model.specs.declared.item.Item.{Item}
use Rattle.page_model.specs.declared.item.Item.TheVariants as items
use Rattle.page_model.specs.declared.item.Sample.{Sample}
use Rattle.page_model.specs.Items.{kind_of_line, sample_of_line}
use Rattle.page_model.specs.Suffixes.{is_sample_name}

-- a descriptor or a sample with the name of the family that owns it
pub record Owned : Type 0 where
  pub family : List ℕ
  pub item : Item

-- the line is of the family
abbrev pub is_of : List ℕ → Owned → Bool
is_of family o = bytes_eq o.family family

-- the kind that a TYPE line of the family declares
abbrev pub declared_kind : List ℕ → Owned → Option Kind
declared_kind family o = if is_of family o then kind_of_line o.item else None

-- the kind of a family; without a TYPE line it is unknown
unfoldable pub kind_of : List Owned → List ℕ → Kind
kind_of above family = unwrap_or (first_some (declared_kind family) above) Unknown

-- the owner of a sample: that of the nearest line above, where the name fits its kind, else the family of the sample's own name
unfoldable pub sample_owner : Format → List Owned → List ℕ → List ℕ
sample_owner f [] name = name
sample_owner f (nearest ∷ above) name = if is_sample_name f (kind_of (nearest ∷ above) nearest.family) nearest.family name then nearest.family else name

-- the owner of a line, where it is a descriptor or a sample
abbrev pub owner_of : Format → List Owned → Item → Option (List ℕ)
owner_of f above (items.Help name text) = Some name
owner_of f above (items.KindOf name kind) = Some name
owner_of f above (items.Unit name unit) = Some name
owner_of f above (items.Sample s) = Some (sample_owner f above s.name)
owner_of f above _ = None

-- the line in front of the owned lines above it
abbrev pub with_owner : Option (List ℕ) → Item → List Owned → List Owned
with_owner None item above = above
with_owner (Some family) item above = record { family = family; item = item } ∷ above

-- the descriptors and samples among the lines, with their owners, the nearest first
unfoldable pub owned_lines : Format → List Item → List Owned
owned_lines f [] = []
owned_lines f (item ∷ earlier) = let above = owned_lines f earlier in with_owner (owner_of f above item) item above

-- the sample of a line, where it is one of the family
abbrev pub sample_in : List ℕ → Owned → Option Sample
sample_in family o = if is_of family o then sample_of_line o.item else None

-- the samples of a family, in the order of the list
unfoldable pub samples_of : List Owned → List ℕ → List Sample
samples_of lines family = filter_map (sample_in family) lines

-- a label set as a page of this treatment keeps it
abbrev pub kept_labels : Treatment → LabelSet → LabelSet
kept_labels treatments.Scraped ls = renamed ls
kept_labels treatments.Written ls = ls

-- the labels that the samples of one metric share: without those that tell buckets, quantiles or states apart
abbrev pub group_of : Kind → List ℕ → LabelSet → LabelSet
group_of Histogram family ls = without_label (codes "le") ls
group_of GaugeHistogram family ls = without_label (codes "le") ls
group_of Summary family ls = without_label (codes "quantile") ls
group_of StateSet family ls = without_label family ls
group_of _ family ls = ls
