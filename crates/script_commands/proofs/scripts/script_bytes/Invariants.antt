use Rattle.std.proofs.Common.{◌≡◌, ◌-◌, ◌≤◌, length}
use Rattle.std.specs.Io.KnownBytes.{Consumes}
use Rattle.program_words.specs.Limits.{most_script}
use Rattle.script_commands.proofs.scripts.script_bytes.Given as goal

abbrev pub invariant-loop-bytes : goal.invariant-loop-bytes
invariant-loop-bytes g l =
    (length l.bytes.items ≤ most_script) × Consumes (g.I.Source.left l.initial.input) (g.I.Source.left l.input) l.bytes.items
    × (g.I.Source.read_faults l.input ≡ g.I.Source.read_faults l.initial.input)

abbrev pub decreases-loop-bytes : goal.decreases-loop-bytes
decreases-loop-bytes g l = most_script - length l.bytes.items
