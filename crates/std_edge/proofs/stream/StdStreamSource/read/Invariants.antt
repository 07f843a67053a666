-- A call that was interrupted leaves the known bytes and the count as they were.
use Rattle.std.proofs.Common.{◌≡◌}
use Rattle.std.specs.Io.KnownBytes.{Keeps}
use Rattle.std_edge.proofs.stream.StdStreamSource.read.Given as goal

abbrev pub invariant-loop : goal.invariant-loop
invariant-loop g l = Keeps (g.R.Read.remaining l.initial.self-inside.stream) (g.R.Read.remaining l.self-inside.stream) × (l.self-inside.faults ≡ l.initial.self-inside.faults)
