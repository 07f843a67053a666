use Rattle.std.proofs.Common.{◌≡◌, ◌+◌}
use Rattle.world_run.proofs.Homes.{ComesHome}
use Rattle.world_run.proofs.home.bring_home.Given as goal

-- the wires of the tracks that are gone are at home
abbrev pub invariant-loop : goal.invariant-loop
invariant-loop g l =
    (l.left.len + l.counter ≡ l.fn.tracks.len)
    × ComesHome l.fn.tracks.items l.left.items (g.W.World.seen l.initial.world) (g.W.World.seen l.world)
