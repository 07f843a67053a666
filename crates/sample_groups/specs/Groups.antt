-- The groups of a family whose readings have several samples: the samples that share their labels, but for those that tell buckets and quantiles apart.
-- OpenMetrics 1.0, "Metric" and "MetricPoint" of "Counter", "Histogram", "GaugeHistogram" and "Summary".
use Rattle.std.specs.Prelude.{◌≡◌, ℕ, Bool, true, false, not, ◌&&◌, ◌||◌, ◌==◌, List, [], ◌∷◌, ◌++◌, map, filter, filter_map, length, codes, Option, Some, None, option_map, is_some, nat_le, nat_lt, if◌then◌else◌}
use Rattle.std.specs.List.{list_all, last_or, cons_option}
use Rattle.std.specs.Map.{lookup}
use Rattle.std.specs.Option.{option_or, option_flatten}
use Rattle.label_sets.specs.declared.kind.Kind.{Kind}
use Rattle.label_sets.specs.declared.kind.Kind.TheVariants.{Counter, Summary}
use Rattle.label_sets.specs.declared.label_set.LabelSet.{LabelSet}
use Rattle.label_sets.specs.Labels.{label_sets_eq, without_label}
use Rattle.label_sets.specs.Lists.{first_of_each, first_some, some_passes, when_true}
use Rattle.exact_decimal.specs.declared.number.Number.{Number}
use Rattle.exact_decimal.specs.Order.{less}
use Rattle.page_model.specs.declared.item.Exemplar.{Exemplar}
use Rattle.page_model.specs.declared.page.Bucket.{Bucket}
use Rattle.page_model.specs.declared.page.Quantile.{Quantile}
use Rattle.page_model.specs.declared.page.Reading.{Reading}
use Rattle.page_model.specs.declared.page.Value.{Value}
use Rattle.page_model.specs.declared.page.Value.TheVariants as values
use Rattle.page_model.specs.Rules.{is_up}
use Rattle.page_model.specs.Readings.{key_name}
use Rattle.page_model.specs.declared.format.Format.{Format}
use Rattle.sample_groups.specs.Places.{has_place}
use Rattle.sample_groups.specs.declared.added.Added.{Added}
use Rattle.sample_groups.specs.Members.{Member}
use Rattle.sample_groups.specs.declared.part.Part.{Part}
use Rattle.sample_groups.specs.declared.part.Part.TheVariants as parts

-- ---- what one group comes to

-- a group as it is kept
pub record Gathered : Type 0 where
  -- a histogram's buckets, in the order of their lines
  pub buckets : List Bucket
  -- a summary's quantiles, in the order of their lines
  pub quantiles : List Quantile
  -- the first sum
  pub sum : Option Number
  -- the first count
  pub count : Option ℕ
  -- all counts are the first one
  pub counts_agree : Bool
  -- a counter's first total
  pub total : Option Number
  -- the first created time
  pub created : Option Number
  -- the time of the first sample that is more than a created time, present or not
  pub first : Option (Option ℕ)
  -- the exemplars of totals and buckets, in the order of their lines
  pub exemplars : List Exemplar

-- the bucket of a part that is one
abbrev pub bucket_in : Part → Option Bucket
bucket_in (parts.Bucket b) = Some b
bucket_in _ = None

-- the quantile of a part that is one
abbrev pub quantile_in : Part → Option Quantile
quantile_in (parts.Quantile q) = Some q
quantile_in _ = None

-- the sum of a part that is one
abbrev pub sum_in : Part → Option Number
sum_in (parts.Sum n) = Some n
sum_in _ = None

-- the count of a part that is one
abbrev pub count_in : Part → Option ℕ
count_in (parts.Count n) = Some n
count_in _ = None

-- the total of a part that is one
abbrev pub total_in : Part → Option Number
total_in (parts.Total n) = Some n
total_in _ = None

-- the created time of a part that is one
abbrev pub created_in : Part → Option Number
created_in (parts.Created n) = Some n
created_in _ = None

-- the part is more than a created time
abbrev pub is_measure : Part → Bool
is_measure (parts.Created n) = false
is_measure _ = true

-- the part may have an exemplar
abbrev pub bears_exemplar : Part → Bool
bears_exemplar (parts.Bucket b) = true
bears_exemplar (parts.Total n) = true
bears_exemplar _ = false

-- the time of a sample that is more than a created time, present or not
abbrev pub time_in : Member → Option (Option ℕ)
time_in m = when_true (is_measure m.part) m.time

-- the exemplar of a total or a bucket
abbrev pub exemplar_in : Member → Option Exemplar
exemplar_in m = if bears_exemplar m.part then m.exemplar else None

-- all of these are the first of them
abbrev pub are_one : List ℕ → Bool
are_one [] = true
are_one (n ∷ ns) = list_all (λ m. n == m) ns

-- a group of these parts, in the order of their lines: its buckets and quantiles, the first of each other sort, and whether all its counts are the first; with this time and these exemplars
unfoldable pub group_of_parts : List Part → Option (Option ℕ) → List Exemplar → Gathered
group_of_parts ps first exemplars = record {
  buckets = filter_map bucket_in ps;
  quantiles = filter_map quantile_in ps;
  sum = first_some sum_in ps;
  count = first_some count_in ps;
  counts_agree = are_one (filter_map count_in ps);
  total = first_some total_in ps;
  created = first_some created_in ps;
  first = first;
  exemplars = exemplars;
}

-- the parts of what samples give their group
abbrev pub parts_of : List Member → List Part
parts_of ms = map (λ (m : Member). m.part) ms

-- a group of these members, in the order of their lines: the time is the first one's that is more than a created time
unfoldable pub group_from : List Member → Gathered
group_from ms = group_of_parts (parts_of ms) (first_some time_in ms) (filter_map exemplar_in ms)

-- ---- the groups of a family

-- the name of the label that tells the samples of a group apart, where the kind has one
abbrev pub place_name : Kind → Option (List ℕ)
place_name Counter = None
place_name Summary = Some (codes "quantile")
place_name _ = Some (codes "le")

-- the labels without the one of this name, where there is one to leave out
abbrev pub without_place : Option (List ℕ) → LabelSet → LabelSet
without_place None ls = ls
without_place (Some name) ls = without_label name ls

-- the labels that the samples of one group share
abbrev pub shared_labels : Kind → LabelSet → LabelSet
shared_labels kind ls = without_place (place_name kind) ls

-- the members with these labels
unfoldable pub members_in : LabelSet → List (LabelSet × Member) → List Member
members_in labels es = map (λ (e : LabelSet × Member). e.1) (filter (λ (e : LabelSet × Member). label_sets_eq e.0 labels) es)

-- their parts
abbrev pub parts_in : LabelSet → List (LabelSet × Member) → List Part
parts_in labels es = parts_of (members_in labels es)

-- the groups of these members, in the order of their first lines
unfoldable pub groups_from : List (LabelSet × Member) → List (LabelSet × Gathered)
groups_from es = map (λ labels. (labels, group_from (members_in labels es))) (first_of_each label_sets_eq (map (λ (e : LabelSet × Member). e.0) es))

-- the second count, where there is one, is the first, where there is one
abbrev pub are_one_count : Option ℕ → Option ℕ → Bool
are_one_count first None = true
are_one_count first (Some n) = not (some_passes (λ m. not (m == n)) first)

-- a group with one member more
unfoldable pub with_one : Gathered → Member → Gathered
with_one g m = record {
  buckets = g.buckets ++ cons_option (bucket_in m.part) [];
  quantiles = g.quantiles ++ cons_option (quantile_in m.part) [];
  sum = option_or g.sum (sum_in m.part);
  count = option_or g.count (count_in m.part);
  counts_agree = g.counts_agree && are_one_count g.count (count_in m.part);
  total = option_or g.total (total_in m.part);
  created = option_or g.created (created_in m.part);
  first = option_or g.first (time_in m);
  exemplars = g.exemplars ++ cons_option (exemplar_in m) [];
}

-- the group without members
abbrev pub empty_group : Gathered
empty_group = group_of_parts [] None []

-- what is kept of the group with these labels
abbrev pub known_group : List (LabelSet × Gathered) → LabelSet → Option Gathered
known_group groups labels = lookup (label_sets_eq labels) groups

-- the group, or the one without members
abbrev pub or_empty : Option Gathered → Gathered
or_empty None = empty_group
or_empty (Some g) = g

-- the group has begun, and another one after it
abbrev pub is_overtaken : List (LabelSet × Gathered) → LabelSet → Bool
is_overtaken [] labels = false
is_overtaken (e ∷ es) labels = if label_sets_eq labels e.0 then nat_lt 0 (length es) else is_overtaken es labels

-- the groups with this one in place of the one with its labels, or behind the others
abbrev pub put_group : List (LabelSet × Gathered) → LabelSet → Gathered → List (LabelSet × Gathered)
put_group [] labels g = (labels, g) ∷ []
put_group (e ∷ es) labels g = if label_sets_eq labels e.0 then (e.0, g) ∷ es else e ∷ put_group es labels g

-- the groups with one member more: in its group, or in a new one behind the others
unfoldable pub with_part : List (LabelSet × Gathered) → LabelSet → Member → List (LabelSet × Gathered)
with_part groups labels member = put_group groups labels (with_one (or_empty (known_group groups labels)) member)

-- ---- order and completeness

-- the bucket isn't above the last one, or has fewer observations
abbrev pub breaks_last : Option Bucket → Bucket → Bool
breaks_last None b = false
breaks_last (Some last) b = not (less last.le b.le && nat_le last.count b.count)

-- Order: a bucket that isn't above the last one of its group, or a quantile whose place the group has already
abbrev pub breaks_order : Gathered → Part → Bool
breaks_order g (parts.Bucket b) = breaks_last (last_or None g.buckets) b
breaks_order g (parts.Quantile q) = has_place g.quantiles q.at
breaks_order g _ = false

-- the last bucket has no upper bound, and the counts are its count
abbrev pub ends_with : Option Bucket → Gathered → Bool
ends_with None g = false
ends_with (Some b) g = is_up b.le && g.counts_agree && not (some_passes (λ n. not (n == b.count)) g.count)

-- a histogram's group with a bucket `+Inf` and no other count than that bucket's
abbrev pub is_whole_group : Gathered → Bool
is_whole_group g = ends_with (last_or None g.buckets) g

-- the answer to what a sample with these labels gives: it is added to its group, unless its part breaks the order there
pub record AddsPart (kind : Kind) (labels : LabelSet) (member : Member) (old new : List (LabelSet × Gathered)) (added : Added) : Type 0 where
  pub answer : added.fits ≡ not (breaks_order (or_empty (known_group old (shared_labels kind labels))) member.part)
  pub overtaken : added.overtaken ≡ is_overtaken old (shared_labels kind labels)
  pub grown : added.fits ≡ true → new ≡ with_part old (shared_labels kind labels) member

-- ---- readings

-- a group with more than a created time
abbrev pub is_measured_group : Gathered → Bool
is_measured_group g = not (length g.quantiles == 0) || is_some g.count || is_some g.sum

-- the value of a group of this kind, where its samples make one
abbrev pub group_value : Kind → Gathered → Option Value
group_value Counter g = option_map values.Plain g.total
group_value Summary g = if is_measured_group g then Some (values.Quantiles g.quantiles g.count g.sum) else None
group_value _ g = Some (values.Buckets g.buckets g.sum)

-- the reading of a group, whose key has this name
abbrev pub reading_named : Kind → List ℕ → List ℕ → LabelSet × Gathered → Option Reading
reading_named kind name unit g = option_map (λ value. record {
  key = record { name = name; kind = kind; unit = unit; labels = g.0 };
  value = value;
  created = g.1.created;
  stamp = option_flatten g.1.first;
  exemplars = g.1.exemplars;
}) (group_value kind g.1)

-- the reading of a group of a family
abbrev pub reading_from : Format → Kind → List ℕ → List ℕ → LabelSet × Gathered → Option Reading
reading_from format kind family unit = reading_named kind (key_name format kind family) unit
