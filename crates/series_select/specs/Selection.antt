-- The readings that selectors match, and the page that they leave.
-- Prometheus, "Querying: Time series selectors" (an absent label has the empty value), "Federation"; OpenMetrics 1.0, "Suffixes".
-- That a reading is known by each of its sample names, and stays whole, is the bridge's own.
use Rattle.std.specs.Prelude.{ℕ, Bool, true, not, ◌&&◌, List, [], ◌∷◌, map, filter, codes, unwrap_or, if◌then◌else◌}
use Rattle.std.specs.List.{list_all, list_any}
use Rattle.std.specs.Option.{option_map_or}
use Rattle.std.specs.Str.{bytes_eq}
use Rattle.label_sets.specs.Labels.{label_value}
use Rattle.page_model.specs.declared.page.Reading.{Reading}
use Rattle.page_model.specs.declared.page.Family.{Family}
use Rattle.page_model.specs.declared.page.Page.{Page}
use Rattle.page_model.specs.Presence.{filled_families}
use Rattle.open_writing.specs.FamilyKeys.{family_key, sample_names}
use Rattle.open_writing.specs.Writing.{page_with, written_text}
use Rattle.series_select.specs.declared.selector.Selector.{Selector}
use Rattle.series_select.specs.declared.selector.Matcher.{Matcher}

-- the names by which the readings of a family can be asked for: its own, and those that its kind allows for its samples
abbrev pub names_of : Family → List (List ℕ)
names_of f = f.name ∷ sample_names (family_key f)

-- this is one of them
unfoldable pub is_called : Family → List ℕ → Bool
is_called f name = list_any (bytes_eq name) (names_of f)

-- the matcher asks for a name, and not for a label
abbrev pub is_name_asked : Matcher → Bool
is_name_asked m = bytes_eq m.name (codes "__name__")

-- the reading has the label with the value, which is empty where the label is absent
abbrev pub has_label : Matcher → Reading → Bool
has_label m r = bytes_eq (unwrap_or (label_value m.name r.key.labels) []) m.value

-- what the matcher compares is the same
abbrev pub is_same : Matcher → Family → Reading → Bool
is_same m f r = if is_name_asked m then is_called f m.value else has_label m r

-- what a matcher says of that
abbrev pub told : Bool → Bool → Bool
told differs same = if differs then not same else same

-- the matcher holds of the reading
abbrev pub holds : Family → Reading → Matcher → Bool
holds f r m = told m.differs (is_same m f r)

-- the selector matches the reading: all its parts hold
unfoldable pub is_selected_by : Family → Reading → Selector → Bool
is_selected_by f r s = option_map_or (is_called f) s.name true && list_all (holds f r) s.matchers

-- some selector matches the reading
abbrev pub is_selected : List Selector → Family → Reading → Bool
is_selected list f r = list_any (is_selected_by f r) list

-- the family with the readings that are selected
unfoldable pub thinned : List Selector → Family → Family
thinned list f = record f { readings = filter (is_selected list f) f.readings }

-- the families with the readings that are selected, without those that have none left
unfoldable pub selected_families : List Selector → List Family → List Family
selected_families list families = filled_families (map (thinned list) families)

-- the selected page; without a selector it is the whole page
unfoldable pub selected_page : List Selector → Page → Page
selected_page [] page = page
selected_page (s ∷ ss) page = page_with (selected_families (s ∷ ss) page.families)

-- its text
abbrev pub selected_text : List Selector → Page → List ℕ
selected_text list page = written_text (selected_page list page)
