use Rattle.std.proofs.Common.{◌≡◌, ◌-◌, ◌≤◌, length}
use Rattle.world_run.proofs.Homes.{AreTaken}
use Rattle.world_run.proofs.taking.new_tracks.Given as goal

-- the tracks of the targets so far
abbrev pub invariant-loop-at : goal.invariant-loop-at
invariant-loop-at g l =
    (l.at ≤ length l.targets) × (l.targets ≡ l.config.targets) × (l.tracks.len ≡ l.at) × (length l.targets ≤ l.tracks.cap)
    × AreTaken l.config l.at l.tracks.items (g.W.World.seen l.initial.world) (g.W.World.seen l.world)

abbrev pub decreases-loop-at : goal.decreases-loop-at
decreases-loop-at g l = length l.targets - l.at
