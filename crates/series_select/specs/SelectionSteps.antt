-- What selectors ask of names, which is one answer for a family, and what of labels: words of this crate's own functions.
-- The bridge's own.
use denote.Ref.{Bor}
use Rattle.std.specs.Prelude.{Bool, true, ◌&&◌, List, map, if◌then◌else◌}
use Rattle.std.specs.List.{list_all, list_any}
use Rattle.std.specs.Option.{option_map_or}
use Rattle.page_model.specs.declared.page.Reading.{Reading}
use Rattle.page_model.specs.declared.page.Family.{Family}
use Rattle.series_select.specs.declared.selector.Selector.{Selector}
use Rattle.series_select.specs.declared.selector.Matcher.{Matcher}
use Rattle.series_select.specs.Selection.{is_called, is_name_asked, has_label, told}

-- what the matcher asks of names holds of the family
abbrev pub name_holds : Family → Matcher → Bool
name_holds f m = if is_name_asked m then told m.differs (is_called f m.value) else true

-- what it asks of labels holds of the reading
abbrev pub label_holds : Reading → Matcher → Bool
label_holds r m = if is_name_asked m then true else told m.differs (has_label m r)

-- what a selector asks of names holds of the family
unfoldable pub names_hold : Family → Selector → Bool
names_hold f s = option_map_or (is_called f) s.name true && list_all (name_holds f) s.matchers

-- what it asks of labels holds of the reading
unfoldable pub labels_hold : Reading → Selector → Bool
labels_hold r s = list_all (label_holds r) s.matchers

-- what some of the selectors asks of labels holds of the reading
abbrev pub is_left : List Selector → Reading → Bool
is_left list r = list_any (labels_hold r) list

-- the selectors that references stand for
abbrev pub selectors_behind : List (Bor Selector) → List Selector
selectors_behind refs = map (λ s. s.now) refs
