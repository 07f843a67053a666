use Rattle.std.proofs.Common.{◌≡◌, filter, take}
use Rattle.target_pages.specs.SeriesPages.{is_series}
use Rattle.target_pages.proofs.thinned.series_readings.Given as goal

-- those of the readings passed that are series
abbrev pub invariant-loop-reading : goal.invariant-loop-reading
invariant-loop-reading l = l.left.items ≡ filter is_series (take l.reading-index l.readings)
