-- What a sample does to what a checker keeps (the bridge's own).
use Rattle.std.specs.Prelude.{◌≡◌, ℕ, Bool, true, false, not, ◌&&◌, ◌||◌, ◌+◌, List, [], ◌∷◌, ◌++◌, Option, Some, None, Result, Ok, Err, nat_le, sum_by, if◌then◌else◌}
use Rattle.exact_decimal.specs.declared.number.Number.{Number}
use Rattle.exact_decimal.specs.Numbers.{number_of}
use Rattle.exact_decimal.specs.Order.{same}
use Rattle.label_sets.specs.declared.kind.Kind.{Kind}
use Rattle.label_sets.specs.declared.kind.Kind.TheVariants.{Info, StateSet}
use Rattle.label_sets.specs.declared.label.Label.{Label}
use Rattle.label_sets.specs.Labels.{has_name}
use Rattle.label_sets.specs.declared.label_set.LabelSet.{LabelSet}
use Rattle.label_sets.specs.Lists.{some_passes, when_true}
use Rattle.page_model.specs.declared.format.Format.{Format}
use Rattle.page_model.specs.declared.item.Exemplar.{Exemplar}
use Rattle.page_model.specs.declared.item.Sample.{Sample}
use Rattle.page_model.specs.declared.rule.Rule.{Rule}
use Rattle.page_model.specs.declared.rule.Rule.TheVariants as rules
use Rattle.page_model.specs.Written.{Setting}
use Rattle.page_model.specs.Suffixes.{is_sample_name}
use Rattle.page_model.specs.Owners.{kept_labels, group_of}
use Rattle.page_model.specs.Rules.{characters, is_open_metrics, is_bad_exemplar, has_wrong_suffix, has_bad_value, has_bad_threshold}
use Rattle.sample_groups.specs.Members.{Member}
use Rattle.sample_groups.specs.declared.part.Part.{Part}
use Rattle.sample_groups.specs.Groups.{shared_labels, known_group, or_empty, with_part, breaks_order, is_overtaken}
use Rattle.sample_groups.specs.Parts.{is_grouped, part_of, sample_time, member_of}
use Rattle.packed_keys.specs.declared.sample_key.SampleKey.{SampleKey}
use Rattle.family_rules.specs.declared.family.Current.{Current}
use Rattle.family_rules.specs.declared.family.FamilySoFar.{FamilySoFar}
use Rattle.family_rules.specs.declared.keyed_sample.KeyedSample.{KeyedSample}
use Rattle.family_rules.specs.declared.timed_values.TimedValue.{TimedValue}
use Rattle.family_rules.specs.LeastRule.{least}
use Rattle.family_rules.specs.KeyedValues.{is_key_of, samples_at_end, is_passed}
use Rattle.family_rules.specs.GroupRuns.{Runs, is_alone, has_runs, group_key, goes_back, with_group}
use Rattle.family_rules.specs.Checking.{Checking, kind_in, key_of, timed}
use Rattle.family_rules.specs.Steps.{current_with, with_current, current_kind}

-- ---- owners and values

-- the current family owns a sample of this name
abbrev pub is_current_sample : Format → Option Current → List ℕ → Bool
is_current_sample f None name = false
is_current_sample f (Some k) name = is_sample_name f (kind_in k.family) k.name name

-- a family with one sample more
abbrev pub family_with_sample : FamilySoFar → FamilySoFar
family_with_sample f = record f { samples = f.samples + 1 }

-- the current family has one sample more
abbrev pub with_counted : Checking → Checking
with_counted c = with_current c (current_with family_with_sample c.current)

-- one sample more, of the current family
unfoldable pub with_sample : Checking → SampleKey → TimedValue → Checking
with_sample c key value = record c {
  current = current_with family_with_sample c.current;
  seen = c.seen ++ (key, value) ∷ [];
  samples = c.samples + 1;
}

-- a family with a member more in its groups
abbrev pub with_part_in : Kind → LabelSet → Member → FamilySoFar → FamilySoFar
with_part_in kind labels member f = record f { groups = with_part f.groups (shared_labels kind labels) member }

-- the checker with other samples that it has seen
abbrev pub with_seen : Checking → List (SampleKey × TimedValue) → Checking
with_seen c seen = record c { seen = seen }

-- the current family has a member more in its groups
abbrev pub with_part_at : Checking → Kind → LabelSet → Member → Checking
with_part_at c kind labels member = with_current c (current_with (with_part_in kind labels member) c.current)

-- the part keeps the order of its group in the current family
abbrev pub fits_order : Kind → LabelSet → Part → Option Current → Bool
fits_order kind labels part None = true
fits_order kind labels part (Some k) = not (breaks_order (or_empty (known_group k.family.groups (shared_labels kind labels))) part)

-- Order
abbrev pub order_stop : Kind → LabelSet → Part → Option Current → Option Rule
order_stop kind labels part current = when_true (not (fits_order kind labels part current)) rules.Order

-- how many samples the current family has
abbrev pub current_samples : Option Current → ℕ
current_samples None = 0
current_samples (Some k) = k.family.samples

-- how many samples at the end tell which groups have begun, where each has a group of its own
abbrev pub own_samples : Checking → Kind → ℕ
own_samples c kind = if is_open_metrics c.setting.format && is_alone kind then current_samples c.current else 0

-- Interleaved, where one of so many samples at the end has these labels, and the last one has not
abbrev pub passed_stop : ℕ → LabelSet → List (SampleKey × TimedValue) → Option Rule
passed_stop own labels seen = when_true (is_passed labels (samples_at_end own seen)) rules.Interleaved

-- Interleaved or Duplicate, of a key that was seen with these labels
abbrev pub known_stop : ℕ → LabelSet → List (SampleKey × TimedValue) → Option Rule
known_stop own labels seen = least (passed_stop own labels seen) (Some rules.Duplicate)

-- the same of any key
abbrev pub seen_stop : ℕ → SampleKey → List (SampleKey × TimedValue) → Option Rule
seen_stop own key seen = if is_key_of key seen then known_stop own key.labels seen else None

-- TooMany
abbrev pub limit_stop : Checking → Option Rule
limit_stop c = when_true (nat_le c.setting.limit c.samples) rules.TooMany

-- Interleaved or Duplicate of a key, what else is broken, and TooMany
unfoldable pub sample_stop : Checking → ℕ → SampleKey → Option Rule → Option Rule
sample_stop c own key broken = least (seen_stop own key c.seen) (least broken (limit_stop c))

-- ---- what a sample is to its group

-- a state is 0 or 1
abbrev pub is_state_value : Number → Bool
is_state_value n = same n (number_of 0) || same n (number_of 1)

-- Value, of a kind whose samples are readings of their own: an info is 1, and a state is 0 or 1 and is named
unfoldable pub is_bad_plain_value : Kind → List ℕ → Sample → Bool
is_bad_plain_value Info family s = not (same s.value (number_of 1))
is_bad_plain_value StateSet family s = not (is_state_value s.value) || not (has_name s.labels family)
is_bad_plain_value _ family s = false

-- Value or Threshold, or else the part of a sample, where its kind has groups
abbrev pub told_part : Setting → Kind → List ℕ → Sample → Result (Option Part) Rule
told_part st kind family s =
    if has_bad_value st.format kind family s then Err rules.Value
    else if has_bad_threshold kind family s then Err rules.Threshold
    else Ok (if is_grouped st.format kind then Some (part_of family s) else None)

-- what a sample of this kind, where its name is allowed, is to its group in the current family
abbrev pub TellsPart : Checking → Kind → Sample → Result (Option Part) Rule → Type 0
TellsPart c kind s told = (family : List ℕ) (f : FamilySoFar) → c.current ≡ Some (record { name = family; family = f })
    → (st : Setting) → st.format ≡ c.setting.format → has_wrong_suffix st kind family s ≡ false → told ≡ told_part st kind family s

-- what was told of a sample, where it has a part with what else the sample gives its group
abbrev pub with_member : Option ℕ → Option Exemplar → Result (Option Part) Rule → Result (Option Member) Rule
with_member time exemplar (Err rule) = Err rule
with_member time exemplar (Ok None) = Ok None
with_member time exemplar (Ok (Some part)) = Ok (Some (record { part = part; time = time; exemplar = exemplar }))

-- Value or Threshold, or else what a sample gives its group, where its kind has groups
abbrev pub told_member : Setting → Kind → List ℕ → Sample → Result (Option Member) Rule
told_member st kind family s =
    if has_bad_value st.format kind family s then Err rules.Value
    else if has_bad_threshold kind family s then Err rules.Threshold
    else Ok (if is_grouped st.format kind then Some (member_of st.format family s) else None)

-- the same of a sample on its way through a checker
abbrev pub given_by : KeyedSample → Result (Option Member) Rule
given_by line = with_member line.value.time line.exemplar.now line.told.now

-- what was told of a sample, or Order
abbrev pub measure_stop : Kind → LabelSet → Result (Option Part) Rule → Option Current → Option Rule
measure_stop kind labels (Err rule) current = Some rule
measure_stop kind labels (Ok None) current = None
measure_stop kind labels (Ok (Some part)) current = order_stop kind labels part current

-- the current family has what a sample gives its group
abbrev pub with_told : Checking → Kind → LabelSet → Result (Option Member) Rule → Checking
with_told c kind labels (Err rule) = c
with_told c kind labels (Ok None) = c
with_told c kind labels (Ok (Some member)) = with_part_at c kind labels member

-- nothing is told of a sample that begins a family, but Incomplete where it leaves one
abbrev pub told_left : Option Rule → Result (Option Part) Rule
told_left None = Ok None
told_left (Some rule) = Err rule

-- the characters of the names and values of labels
abbrev pub label_characters : List Label → ℕ
label_characters ls = sum_by (λ (l : Label). characters l.name + characters l.value) ls

-- the exemplar of a sample of the current family is a bad one
abbrev pub has_bad_exemplar : Option Current → Sample → Bool
has_bad_exemplar None s = false
has_bad_exemplar (Some k) s = is_bad_exemplar (kind_in k.family) k.name s

-- ---- groups

-- the group of a sample of the current family
abbrev pub key_in : Current → Kind → LabelSet → SampleKey
key_in k kind labels = group_key k.name (group_of kind k.name labels)

-- the sample's group in the current family has begun, and another one after it
abbrev pub is_overtaken_in : Kind → LabelSet → Option Current → Bool
is_overtaken_in kind labels None = false
is_overtaken_in kind labels (Some k) = is_overtaken k.family.groups (shared_labels kind labels)

-- Interleaved: a sample of a kind with groups goes back to its group in the current family
abbrev pub is_back_in_groups : Format → Kind → LabelSet → Option Current → Bool
is_back_in_groups f kind labels current = is_grouped f kind && is_open_metrics f && is_overtaken_in kind labels current

-- Interleaved, where something is told of a sample by the groups
abbrev pub is_told_back : Format → Kind → LabelSet → Result (Option Part) Rule → Option Current → Bool
is_told_back f kind labels (Ok None) current = false
is_told_back f kind labels (Ok (Some part)) current = is_open_metrics f && is_overtaken_in kind labels current
is_told_back f kind labels (Err rule) current = is_back_in_groups f kind labels current

-- Interleaved, what was told of a sample, and Order
abbrev pub part_stop : Format → Kind → LabelSet → Result (Option Part) Rule → Option Current → Option Rule
part_stop f kind labels told current = least (when_true (is_told_back f kind labels told current) rules.Interleaved) (measure_stop kind labels told current)

-- Interleaved: a sample of the current family goes back to its group, by the groups that have begun
abbrev pub is_back : Checking → Kind → LabelSet → Bool
is_back c kind labels = has_runs c.setting.format kind && some_passes (λ k. goes_back c.runs (key_in k kind labels)) c.current

-- the checker with other groups that have begun
abbrev pub with_runs : Checking → Runs → Checking
with_runs c runs = record c { runs = runs }

-- the groups with a sample of the current family more, where they are kept
abbrev pub runs_with : Format → Option Current → Kind → LabelSet → Runs → Runs
runs_with f None kind labels r = r
runs_with f (Some k) kind labels r = if has_runs f kind then with_group r (key_in k kind labels) else r

-- a sample of the current family has gone to its group
abbrev pub entered_by : Checking → Kind → LabelSet → Checking
entered_by c kind labels = record c { runs = runs_with c.setting.format c.current kind labels c.runs }

-- ---- a sample more

-- all that a sample with this key breaks
abbrev pub key_stop : Checking → Kind → SampleKey → Result (Option Part) Rule → Option Rule
key_stop c kind key told = sample_stop c (own_samples c kind) key
    (least (when_true (is_back c kind key.labels) rules.Interleaved) (part_stop c.setting.format kind key.labels told c.current))

-- the current family has a sample with this key more
abbrev pub with_key : Checking → Kind → SampleKey → TimedValue → Result (Option Member) Rule → Checking
with_key c kind key value given = with_sample (with_told (entered_by c kind key.labels) kind key.labels given) key value

-- all that a sample breaks
abbrev pub add_stop : Checking → Kind → Sample → Result (Option Part) Rule → Option Rule
add_stop c kind s told = key_stop c kind (key_of c.setting s) told

-- the current family has the sample
abbrev pub with_added : Checking → Kind → Sample → Result (Option Part) Rule → Checking
with_added c kind s told = with_key c kind (key_of c.setting s) (timed c.setting s) (with_member (sample_time c.setting.format s) s.exemplar told)

-- a sample of the current family goes back to its group, by what tells it of its kind
abbrev pub is_any_back : Checking → Kind → LabelSet → Bool
is_any_back c kind labels = is_back c kind labels || is_back_in_groups c.setting.format kind labels c.current
    || is_passed labels (samples_at_end (own_samples c kind) c.seen)

-- Interleaved or Suffix, of a sample with these labels whose name the current family's kind doesn't allow
abbrev pub labels_stop : Checking → LabelSet → Option Rule
labels_stop c labels = least (when_true (is_any_back c (current_kind c.current) labels) rules.Interleaved) (Some rules.Suffix)

-- the same of a sample
abbrev pub name_stop : Checking → Sample → Option Rule
name_stop c s = labels_stop c (kept_labels c.setting.treatment s.labels)
