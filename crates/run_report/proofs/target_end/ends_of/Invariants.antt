use Rattle.std.proofs.Common.{◌≡◌, map, take}
use Rattle.run_report.specs.Ends as spec
use Rattle.run_report.proofs.target_end.ends_of.Given as goal

-- the ends of the tracks so far
abbrev pub invariant-loop-track : goal.invariant-loop-track
invariant-loop-track g l = l.ends.items ≡ map spec.track_end (take l.track-index l.tracks)
