-- What few groups have beside their parts, as contracts see it (the bridge's own).
use Rattle.std.specs.Prelude.{ℕ, List, [], ◌++◌, Option, None}
use Rattle.std.specs.List.{list_any, cons_option}
use Rattle.label_sets.specs.Lists.{when_true}
use Rattle.exact_decimal.specs.Decimals.{DecimalValue}
use Rattle.page_model.specs.declared.item.Exemplar.{Exemplar}
use Rattle.sample_groups.specs.declared.part.Part.{Part}
use Rattle.sample_groups.specs.Groups.{Gathered, group_of_parts, is_measure}

-- the places of its quantiles, the time of its first part that is more than a created time, and its exemplars
pub record ExtraValue : Type 0 where
  pub places : Option (List DecimalValue)
  pub time : Option ℕ
  pub exemplars : List Exemplar

-- none of them
abbrev pub no_extra : ExtraValue
no_extra = record { places = None; time = None; exemplars = [] }

-- with this exemplar more, where there is one
abbrev pub with_exemplar : ExtraValue → Option Exemplar → ExtraValue
with_exemplar x exemplar = record x { exemplars = x.exemplars ++ cons_option exemplar [] }

-- the time of a group of these parts, where one of them is more than a created time
abbrev pub first_time : List Part → Option ℕ → Option (Option ℕ)
first_time ps time = when_true (list_any is_measure ps) time

-- a group of these parts, with what stands beside them
abbrev pub group_kept : List Part → ExtraValue → Gathered
group_kept ps x = group_of_parts ps (first_time ps x.time) x.exemplars
