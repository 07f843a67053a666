use Rattle.std.proofs.Common.{◌≤◌, length}
use Rattle.replay_script.specs.Progresses.{WasReadTo}
use Rattle.replay_script.proofs.reading.read_into.Given as goal

abbrev pub invariant-loop-front : goal.invariant-loop-front
invariant-loop-front l = (length l.rest ≤ length l.bytes) × WasReadTo l.bytes l.rest l.progress

abbrev pub decreases-loop-front : goal.decreases-loop-front
decreases-loop-front l = length l.rest
