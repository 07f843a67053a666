-- What of a page tells which of its series vanish: its keys with points, in its order, and which of them it gave times of their own.
-- OTLP 1.x, "DataPointFlags" (no recorded value); Prometheus, "Staleness". What is kept is the bridge's own.
use Rattle.std.specs.Prelude.{◌≡◌, Bool, not, ◌&&◌, List, map, filter, is_some}
use Rattle.std.specs.List.{list_any}
use Rattle.label_sets.specs.declared.series_key.SeriesKey.{SeriesKey}
use Rattle.label_sets.specs.Keys.{key_eq}
use Rattle.page_model.specs.declared.page.Reading.{Reading}
use Rattle.page_model.specs.declared.page.Page.{Page}
use Rattle.page_model.specs.Presence.{all_readings, is_present}
use Rattle.start_times.specs.Starts.{Tracking, has_points, own_time}
use Rattle.staleness.specs.declared.marks.Mark.{Mark}
use Rattle.staleness.specs.Vanished.{keys_gone}

-- the mark of a reading
abbrev pub mark_of : Tracking → Reading → Mark
mark_of t r = record { key = r.key; own = is_some (own_time t r) }

-- the marks of a page: of its readings with points, in its order
abbrev pub marks_of : Tracking → Page → List Mark
marks_of t page = map (mark_of t) (filter (λ (r : Reading). has_points r.key.kind) (all_readings page))

-- the page lacks a series to which the page before gave no time of its own
abbrev pub is_missed : Page → Mark → Bool
is_missed now m = not m.own && not (is_present m.key now)

-- the keys of the marks that the page lacks, in their order
abbrev pub marks_gone : List Mark → Page → List SeriesKey
marks_gone marks now = map (λ (m : Mark). m.key) (filter (is_missed now) marks)

-- as the code asks: the mark has no time of its own, and its series is not among these
unfoldable pub is_unread : List SeriesKey → Mark → Bool
is_unread others m = not m.own && not (list_any (key_eq m.key) others)

-- the marks of a page are all that it takes to tell which of its series are gone
abbrev pub MarksAreEnough : Type 0
MarksAreEnough = (t : Tracking) (before now : Page) → marks_gone (marks_of t before) now ≡ keys_gone t before now
