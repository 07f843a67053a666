-- Items of lines: what a checker may be given, and what it keeps of what it took.
-- The bridge's own.
use Rattle.std.specs.Prelude.{◌≡◌, List, None}
use Rattle.page_model.specs.declared.item.Item.{Item}
use Rattle.page_model.specs.Pages.{IsItemOfLine, AreItemsOfLines}
use Rattle.family_rules.specs.Checking.{Checking, Stands}

-- the checker may be given this item: some line of its format spells it and breaks no rule of a line alone. One that has stopped takes nothing
abbrev pub MayTake : Checking → Item → Type 0
MayTake c item = c.stopped ≡ None → IsItemOfLine c.setting item

-- the checker has taken the items of some lines
pub record HasLines (c : Checking) : Type 0 where
  pub items : List Item
  pub of_lines : AreItemsOfLines c.setting items
  pub stands : Stands c.setting c items

-- the checker has taken the items of some lines, unless it has stopped
abbrev pub KeepsLines : Checking → Type 0
KeepsLines c = c.stopped ≡ None → HasLines c
