-- Pages with readings or exemplars taken out.
-- The bridge's own.
use Rattle.std.specs.Prelude.{Bool, not, ◌==◌, [], map, filter, length}
use Rattle.std.specs.List.{list_any}
use Rattle.page_model.specs.declared.page.Reading.{Reading}
use Rattle.page_model.specs.declared.page.Family.{Family}
use Rattle.page_model.specs.declared.page.Page.{Page}
use Rattle.page_model.specs.Presence.{filled_page}

-- the page with the readings that pass a test
abbrev pub page_where : (Reading → Bool) → Page → Page
page_where test page = record {
  families = map (λ (f : Family). record { name = f.name; kind = f.kind; help = f.help; unit = f.unit; readings = filter test f.readings }) page.families;
  samples = page.samples;
}

-- the reading without its exemplars
abbrev pub bare_of_exemplars : Reading → Reading
bare_of_exemplars r = record { key = r.key; value = r.value; created = r.created; stamp = r.stamp; exemplars = [] }

-- the family without the exemplars of its readings
abbrev pub bare_family : Family → Family
bare_family f = record { name = f.name; kind = f.kind; help = f.help; unit = f.unit; readings = map bare_of_exemplars f.readings }

-- the page without its exemplars
unfoldable pub without_exemplars : Page → Page
without_exemplars page = record { families = map bare_family page.families; samples = page.samples }

-- a page as it is shown: without its exemplars, and without the families that have no reading
abbrev pub shown_page : Page → Page
shown_page page = filled_page (without_exemplars page)

-- the reading has exemplars
abbrev pub has_exemplars : Reading → Bool
has_exemplars r = not (length r.exemplars == 0)

-- some reading of the family has exemplars
abbrev pub family_has_exemplars : Family → Bool
family_has_exemplars f = list_any has_exemplars f.readings
