use Rattle.std.proofs.Common.{◌≡◌, Bool, map, zip, take, filter_map}
use Rattle.std.specs.List.{list_any}
use Rattle.label_sets.specs.declared.series_key.SeriesKey.{SeriesKey}
use Rattle.start_times.specs.Filling.{with_entries}
use Rattle.start_times.specs.Sightings.{is_first_miss, missed_entry}
use Rattle.start_times.proofs.sighting.keep_others.Given as goal

-- what was kept are the rows passed that were missed, and whether one of them is missed for the first time is told
abbrev pub invariant-loop-at : goal.invariant-loop-at
invariant-loop-at l = record {
  kept : (present : SeriesKey → Bool) → l.fn.found ≡ map present l.fn.keys → l.initial.entries.before ≡ l.fn.keys → l.entries ≡ with_entries l.initial.entries (filter_map (missed_entry l.fn.keep present) (take l.at (zip l.fn.keys l.fn.rows)));
  misses : (present : SeriesKey → Bool) → l.fn.found ≡ map present l.fn.keys → l.misses ≡ list_any (is_first_miss present) (take l.at (zip l.fn.keys l.fn.rows));
}
