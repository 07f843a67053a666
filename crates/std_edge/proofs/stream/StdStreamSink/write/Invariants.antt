-- A call that was interrupted leaves the known bytes and the count as they were.
use Rattle.std.proofs.Common.{◌≡◌}
use Rattle.std.specs.Io.KnownBytes.{Keeps}
use Rattle.std_edge.proofs.stream.StdStreamSink.write.Given as goal

abbrev pub invariant-loop : goal.invariant-loop
invariant-loop g l = Keeps (g.W.Write.contents l.initial.self-inside.stream) (g.W.Write.contents l.self-inside.stream) × (l.self-inside.faults ≡ l.initial.self-inside.faults)
