use Rattle.std.proofs.Common.{◌≡◌, ◌-◌, ◌≤◌, length, take}
use Rattle.std.specs.Io.KnownBytes.{Appends}
use Rattle.bridge_ports.proofs.writing.write_all.Given as goal

abbrev pub invariant-loop-at : goal.invariant-loop-at
invariant-loop-at g l =
    (l.at ≤ length l.text) × Appends (g.O.Sink.held l.initial.output) (g.O.Sink.held l.output) (take l.at l.text)
    × (g.O.Sink.write_faults l.output ≡ g.O.Sink.write_faults l.initial.output)
    × (l.at ≡ 0 → l.output ≡ l.initial.output)

abbrev pub decreases-loop-at : goal.decreases-loop-at
decreases-loop-at g l = length l.text - l.at
