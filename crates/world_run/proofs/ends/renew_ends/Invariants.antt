use Rattle.std.proofs.Common.{◌≡◌, ◌-◌, ◌≤◌, length, map, take}
use Rattle.run_report.specs.Ends.{track_end}
use Rattle.world_run.specs.Taken as spec
use Rattle.world_run.proofs.ends.renew_ends.Given as goal

-- the ends of the tracks so far were renewed, and all have their names
abbrev pub invariant-loop-at : goal.invariant-loop-at
invariant-loop-at g l = (l.at ≤ length l.tracks) × (map spec.end_names l.ends ≡ map spec.track_names l.tracks) × (take l.at l.ends ≡ map track_end (take l.at l.tracks))

abbrev pub decreases-loop-at : goal.decreases-loop-at
decreases-loop-at g l = length l.tracks - l.at
