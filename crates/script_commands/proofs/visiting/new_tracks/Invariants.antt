use Rattle.std.proofs.Common.{◌≡◌, ◌-◌, ◌≤◌, length, take}
use Rattle.series_table.specs.HttpTalks.{talking}
use Rattle.series_table.specs.Tracks.{AreTracks, AreUnvisited}
use Rattle.script_commands.specs.Rounds.{script_targets}
use Rattle.script_commands.proofs.visiting.new_tracks.Given as goal

-- the tracks of the targets so far
abbrev pub invariant-loop-at : goal.invariant-loop-at
invariant-loop-at l =
    (l.at ≤ length l.targets) × (l.targets ≡ l.script.targets) × (l.tracks.len ≡ l.at) × (length l.targets ≤ l.tracks.cap)
    × AreTracks talking 0 (script_targets l.keeps l.script.header (take l.at l.script.targets)) l.tracks.items × AreUnvisited l.tracks.items

abbrev pub decreases-loop-at : goal.decreases-loop-at
decreases-loop-at l = length l.targets - l.at
