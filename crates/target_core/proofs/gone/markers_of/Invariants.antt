use Rattle.std.proofs.Common.{◌≡◌, ℕ, map, take, Option}
use Rattle.label_sets.specs.declared.series_key.SeriesKey.{SeriesKey}
use Rattle.target_core.specs.Events.{marker_with}
use Rattle.target_core.proofs.gone.markers_of.Given as goal

-- the markers of the series so far
abbrev pub invariant-loop-place : goal.invariant-loop-place
invariant-loop-place l = (start : SeriesKey → Option ℕ) → l.fn.starts ≡ map start l.gone → l.markers.items ≡ map (marker_with start l.fn.moment) (take l.place l.gone)
