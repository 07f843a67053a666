-- What the single steps of a checker do to what it keeps: where a line stands, and what describes a family (the bridge's own).
use Rattle.std.specs.Prelude.{◌≡◌, ℕ, Bool, false, not, ◌&&◌, ◌||◌, List, ◌∷◌, map, count_by, Option, Some, None, is_some, if◌then◌else◌}
use Rattle.std.specs.List.{list_any, list_all}
use Rattle.std.specs.Str.{bytes_eq}
use Rattle.std.specs.Map.{lookup}
use Rattle.indexmap.specs.IndexMap.{insert_entry}
use Rattle.label_sets.specs.declared.kind.Kind.{Kind}
use Rattle.label_sets.specs.declared.kind.Kind.TheVariants.{Unknown}
use Rattle.label_sets.specs.declared.label_set.LabelSet.{LabelSet}
use Rattle.label_sets.specs.Lists.{some_passes}
use Rattle.page_model.specs.declared.item.Item.{Item}
use Rattle.page_model.specs.declared.item.Item.TheVariants as items
use Rattle.page_model.specs.declared.rule.Rule.{Rule}
use Rattle.page_model.specs.declared.rule.Rule.TheVariants as rules
use Rattle.page_model.specs.Written.{Setting}
use Rattle.page_model.specs.Items.{is_eof, is_sample}
use Rattle.page_model.specs.Owners.{owned_lines}
use Rattle.page_model.specs.Rules.{is_open_metrics, is_after_eof, is_histogram, is_info_or_state_set, is_unit, is_foreign_unit}
use Rattle.page_model.specs.Faults.{item_fault}
use Rattle.page_model.specs.Pages.{AreFaultless}
use Rattle.sample_groups.specs.Groups.{Gathered, is_whole_group}
use Rattle.family_rules.specs.declared.family.Current.{Current}
use Rattle.family_rules.specs.declared.family.Descriptor.{Descriptor}
use Rattle.family_rules.specs.declared.family.Descriptor.TheVariants as sorts
use Rattle.family_rules.specs.declared.family.FamilySoFar.{FamilySoFar}
use Rattle.family_rules.specs.GroupRuns.{no_runs, runs_of}
use Rattle.family_rules.specs.Checking.{Checking, no_lines, has_samples, kind_in, so_far, left_before, seen_above, Stands}

-- ---- reading

-- a family has a descriptor of the sort of this one
abbrev pub has : Descriptor → FamilySoFar → Bool
has (sorts.Help text) f = is_some f.help
has (sorts.Type kind) f = is_some f.kind
has (sorts.Unit unit) f = is_some f.unit

-- the line that gives a family this descriptor
abbrev pub line_of : List ℕ → Descriptor → Item
line_of family (sorts.Help text) = items.Help family text
line_of family (sorts.Type kind) = items.KindOf family kind
line_of family (sorts.Unit unit) = items.Unit family unit

-- this is the current family
abbrev pub is_current_family : Option Current → List ℕ → Bool
is_current_family None family = false
is_current_family (Some k) family = bytes_eq k.name family

-- what is known of a family
abbrev pub known_in : List (List ℕ × FamilySoFar) → Option Current → List ℕ → Option FamilySoFar
known_in left None family = lookup (bytes_eq family) left
known_in left (Some k) family = if bytes_eq k.name family then Some k.family else lookup (bytes_eq family) left

-- late, by what is known of the family: it has a descriptor of this sort, or a sample
abbrev pub is_late_in : Descriptor → Option FamilySoFar → Bool
is_late_in d None = false
is_late_in d (Some f) = has d f || has_samples f

-- the kind of the current family
abbrev pub current_kind : Option Current → Kind
current_kind None = Unknown
current_kind (Some k) = kind_in k.family

-- a histogram of which a group isn't whole
abbrev pub has_incomplete : FamilySoFar → Bool
has_incomplete f = is_histogram (kind_in f) && not (list_all (λ (g : LabelSet × Gathered). is_whole_group g.1) f.groups)

-- Incomplete, where the current family is left
abbrev pub left_stop : Option Current → Option Rule
left_stop None = None
left_stop (Some k) = if has_incomplete k.family then Some rules.Incomplete else None

-- Descriptor, Split or Incomplete, by the place of a descriptor
unfoldable pub place_stop : Checking → List ℕ → Descriptor → Option Rule
place_stop c family d =
    if is_late_in d (known_in c.left c.current family) then Some rules.Descriptor
    else if is_current_family c.current family then None
    else if is_some (lookup (bytes_eq family) c.left) then Some rules.Split
    else left_stop c.current

-- with this line the family has a unit that its name lacks, or a unit and a kind that forbids one
unfoldable pub is_bad_unit_in : Current → Descriptor → Bool
is_bad_unit_in k (sorts.Help text) = false
is_bad_unit_in k (sorts.Type kind) = is_info_or_state_set kind && some_passes is_unit k.family.unit
is_bad_unit_in k (sorts.Unit unit) = is_foreign_unit k.name unit || (is_info_or_state_set (kind_in k.family) && is_unit unit)

-- Unit
abbrev pub unit_stop : Option Current → Descriptor → Option Rule
unit_stop None d = None
unit_stop (Some k) d = if is_bad_unit_in k d then Some rules.Unit else None

-- the page has ended, and lines behind its end break a rule
abbrev pub has_ended : Checking → Bool
has_ended c = is_open_metrics c.setting.format && c.ended

-- ---- changes

-- the left families with the current one
abbrev pub with_left : List (List ℕ × FamilySoFar) → Option Current → List (List ℕ × FamilySoFar)
with_left left None = left
with_left left (Some k) = insert_entry bytes_eq left k.name k.family

-- the family is begun, and the current one is left
abbrev pub begun : Checking → List ℕ → Checking
begun c family = record c { left = with_left c.left c.current; current = Some (record { name = family; family = no_lines }); runs = no_runs }

-- the family is the current one, and was begun where it was not
unfoldable pub reached : Checking → List ℕ → Checking
reached c family = if is_current_family c.current family then c else begun c family

-- what is known of the current family, changed
abbrev pub current_with : (FamilySoFar → FamilySoFar) → Option Current → Option Current
current_with change None = None
current_with change (Some k) = Some (record { name = k.name; family = change k.family })

-- the checker with another current family
abbrev pub with_current : Checking → Option Current → Checking
with_current c current = record c { current = current }

-- a family with a descriptor more
abbrev pub family_with : Descriptor → FamilySoFar → FamilySoFar
family_with (sorts.Help text) f = record f { help = Some text }
family_with (sorts.Type kind) f = record f { kind = Some kind }
family_with (sorts.Unit unit) f = record f { unit = Some unit }

-- the current family has a descriptor more
abbrev pub with_descriptor : Checking → Descriptor → Checking
with_descriptor c d = with_current c (current_with (family_with d) c.current)

-- ---- between the two

-- the checker stands for these items, and a line of this family can be added
pub record IsReady (st : Setting) (c : Checking) (earlier : List Item) (family : List ℕ) : Type 0 where
  pub setting : c.setting ≡ st
  pub left : c.left ≡ map (λ name. (name, so_far st (owned_lines st.format earlier) name)) (left_before family (owned_lines st.format earlier))
  pub current : c.current ≡ Some (record { name = family; family = so_far st (owned_lines st.format earlier) family })
  pub runs : c.runs ≡ runs_of st (owned_lines st.format earlier) family
  pub seen : c.seen ≡ seen_above st (owned_lines st.format earlier)
  pub samples : c.samples ≡ count_by is_sample earlier
  pub ended : c.ended ≡ list_any is_eof earlier
  pub working : c.stopped ≡ None
  pub faultless : AreFaultless st earlier

-- the rule that an item of a page that goes on breaks, where it breaks one; where it breaks none, the checker stands for it too
pub record Takes (item : Item) (old new : Checking) (broken : Option Rule) : Type 0 where
  pub broken_is : (st : Setting) (earlier : List Item) → Stands st old earlier → is_after_eof st earlier ≡ false → broken ≡ item_fault st earlier item
  pub stands : (st : Setting) (earlier : List Item) → Stands st old earlier → is_after_eof st earlier ≡ false → broken ≡ None → Stands st new (item ∷ earlier)

-- the same of any page
pub record TakesAny (item : Item) (old new : Checking) (broken : Option Rule) : Type 0 where
  pub broken_is : (st : Setting) (earlier : List Item) → Stands st old earlier → broken ≡ item_fault st earlier item
  pub stands : (st : Setting) (earlier : List Item) → Stands st old earlier → broken ≡ None → Stands st new (item ∷ earlier)

-- ---- the end

-- NoNewline, NoEof or Incomplete, at the end
unfoldable pub end_stop : Checking → Bool → Option Rule
end_stop c clean =
    if not (is_open_metrics c.setting.format) && not clean then Some rules.NoNewline
    else if is_open_metrics c.setting.format && not c.ended then Some rules.NoEof
    else left_stop c.current
