use Rattle.std.proofs.Common.{◌≡◌, map, zip, take}
use Rattle.std.specs.List.{IsDistinct}
use Rattle.label_sets.specs.Keys.{key_eq}
use Rattle.start_times.specs.Rows.{kept_start}
use Rattle.start_times.proofs.sighting.starts_at.Given as goal

-- the starts are those of the keys passed
abbrev pub invariant-loop-key : goal.invariant-loop-key
invariant-loop-key l = record {
  places : l.places ≡ l.initial.places;
  starts : IsDistinct key_eq l.initial.places → l.starts.items ≡ map (kept_start (zip l.initial.places l.fn.rows)) (take l.key-index l.fn.keys);
}
