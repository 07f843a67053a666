-- The families of one target as they would stand on the federation page, before any conflict with those of other targets.
-- Prometheus, "Federation" (job and instance labels); OpenMetrics 1.0, "Counter", "Info", "StateSet". What is left out is the bridge's own.
use Rattle.std.specs.Prelude.{◌≡◌, ◌≢◌, ℕ, ◌-◌, IsTrue, Bool, true, false, not, ◌&&◌, ◌||◌, List, [], ◌∷◌, map, filter, filter_map, length, take, codes, Option, Some, None, option_map, unwrap_or, ◌==◌, if◌then◌else◌}
use Rattle.std.specs.List.{ends_with, list_all}
use Rattle.std.specs.Str.{bytes_eq}
use Rattle.label_sets.specs.declared.kind.Kind.{Kind}
use Rattle.label_sets.specs.declared.kind.Kind.TheVariants.{Counter, GaugeHistogram, StateSet, Info, Unknown}
use Rattle.label_sets.specs.declared.label_set.LabelSet.{LabelSet}
use Rattle.label_sets.specs.Lists.{when_true}
use Rattle.label_sets.specs.Labels.{label_inserted}
use Rattle.label_sets.specs.Sets.{IsLabelSet}
use Rattle.page_model.specs.declared.format.Format.{Format}
use Rattle.page_model.specs.declared.format.Format.TheVariants.{OpenMetrics}
use Rattle.page_model.specs.declared.format.Treatment.TheVariants.{Scraped}
use Rattle.page_model.specs.declared.page.Value.{Value}
use Rattle.page_model.specs.declared.page.Value.TheVariants as values
use Rattle.page_model.specs.declared.page.Reading.{Reading}
use Rattle.page_model.specs.declared.page.Family.{Family}
use Rattle.page_model.specs.declared.event.Shown.{Shown}
use Rattle.page_model.specs.Readings.{key_name}
use Rattle.open_writing.specs.Forms.{is_count_of_events, is_own_label, AreFormed}

-- ---- what is left out

-- a family that no federation page has: a gauge histogram, or a state set whose label would be one of the target's
unfoldable pub is_left_out : Kind → List ℕ → Bool
is_left_out GaugeHistogram name = true
is_left_out StateSet name = bytes_eq name (codes "job") || bytes_eq name (codes "instance")
is_left_out _ name = false

-- a value that a counter of OpenMetrics may have
abbrev pub is_counter_value : Value → Bool
is_counter_value (values.Plain n) = is_count_of_events n
is_counter_value _ = true

-- a reading that stays: any but a counter's that is NaN or negative
unfoldable pub stays : Kind → Reading → Bool
stays Counter r = is_counter_value r.value
stays _ r = true

-- ---- names

-- what stands in front of this end of a name that has more before it
unfoldable pub in_front_of : List ℕ → List ℕ → Option (List ℕ)
in_front_of end name = let front = take (length name - length end) name in when_true (ends_with ◌==◌ name end && not (bytes_eq front [])) front

-- the kind under which a series of this kind and key name is federated: a counter without `_total` is of unknown kind
unfoldable pub federated_kind : Kind → List ℕ → Kind
federated_kind Counter key = unwrap_or (option_map (λ front. Counter) (in_front_of (codes "_total") key)) Unknown
federated_kind kind key = kind

-- the name of the family under which it is federated
unfoldable pub federated_name : Kind → List ℕ → List ℕ
federated_name Counter key = unwrap_or (in_front_of (codes "_total") key) key
federated_name Info key = unwrap_or (in_front_of (codes "_info") key) key
federated_name kind key = key

-- ---- readings and families

-- labels with those of the target
unfoldable pub with_target : List ℕ → List ℕ → LabelSet → LabelSet
with_target job instance labels = label_inserted (record { name = codes "instance"; value = instance }) (label_inserted (record { name = codes "job"; value = job }) labels)

-- a reading under this key name and kind, with the target's labels, and without a page timestamp and exemplars
abbrev pub reading_under : Shown → List ℕ → Kind → Reading → Reading
reading_under shown key kind r = record {
  key = record { name = key; kind = kind; unit = r.key.unit; labels = with_target shown.job shown.instance r.key.labels };
  value = r.value;
  created = r.created;
  stamp = None;
  exemplars = [];
}

-- a reading of a family of this kind and name
unfoldable pub federated_reading : Shown → Kind → List ℕ → Reading → Reading
federated_reading shown kind family r = reading_under shown (key_name OpenMetrics kind family) kind r

-- a family under its federated name and kind, with these readings, of which the first names it
abbrev pub renamed_family : Shown → Family → List Reading → Option Family
renamed_family shown f [] = None
renamed_family shown f (r ∷ rs) =
    let kind = federated_kind f.kind r.key.name in
    let name = federated_name f.kind r.key.name in
    Some (record { name = name; kind = kind; help = f.help; unit = f.unit; readings = map (federated_reading shown kind name) (r ∷ rs) })

-- a family as it would stand on the page, where some of its readings stay
unfoldable pub candidate_of : Shown → Family → Option Family
candidate_of shown f = if is_left_out f.kind f.name then None else renamed_family shown f (filter (stays f.kind) f.readings)

-- the families of a target as they would stand on the page, in page order
unfoldable pub candidates_of : Shown → List Family
candidates_of shown = filter_map (candidate_of shown) shown.page.families

-- ---- what the code makes a candidate of

-- the readings of a family that stay
abbrev pub staying_readings : Family → List Reading
staying_readings f = filter (stays f.kind) f.readings

-- the first of these
abbrev pub IsFirstReading : List Reading → Reading → Type 0
IsFirstReading readings first = (rest : List Reading) × (readings ≡ first ∷ rest)

-- the target has both of its names
pub record HasNames (s : Shown) : Type 0 where
  pub job : s.job ≢ []
  pub instance : s.instance ≢ []

-- it has them, and its page has the form of a scraped one
pub record IsFormedTarget (s : Shown) : Type 0 where
  pub names : HasNames s
  pub format : Format
  pub formed : AreFormed format Scraped s.page.families

-- labels to which those of a target can be added
pub record AreFreeLabels (labels : LabelSet) : Type 0 where
  pub set : IsLabelSet labels
  pub own : IsTrue (list_all (is_own_label Scraped) labels)

-- a family as it would stand on the page, where the readings that stay have this key name
abbrev pub named_candidate : Shown → List ℕ → Family → Family
named_candidate shown key f =
    let kind = federated_kind f.kind key in
    record { name = federated_name f.kind key; kind = kind; help = f.help; unit = f.unit; readings = map (reading_under shown key kind) (filter (stays f.kind) f.readings) }
