-- What of a page are series, and not what describes the target, as the code takes them apart.
-- The bridge's own.
use Rattle.std.specs.Prelude.{Bool, not, ◌&&◌, List, map, filter, is_some}
use Rattle.page_model.specs.declared.page.Reading.{Reading}
use Rattle.page_model.specs.declared.page.Family.{Family}
use Rattle.start_times.specs.Starts.{has_points}
use Rattle.staleness.specs.declared.marks.Mark.{Mark}
use Rattle.target_pages.specs.Stretches.{is_info}

-- the reading does not describe the target
abbrev pub is_series : Reading → Bool
is_series r = not (is_info r)

-- the family without the readings that describe the target
abbrev pub series_family : Family → Family
series_family f = record { name = f.name; kind = f.kind; help = f.help; unit = f.unit; readings = filter is_series f.readings }

-- the marks of readings, where times of the page count or not
abbrev pub marks_where : Bool → List Reading → List Mark
marks_where honor rs = map (λ (r : Reading). record { key = r.key; own = honor && is_some r.stamp }) (filter (λ (r : Reading). has_points r.key.kind) rs)
