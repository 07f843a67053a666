use Rattle.std.proofs.Common.{◌≡◌, ◌-◌, ◌≤◌, length, drop, ◌++◌}
use Rattle.label_sets.specs.Escapes.{unescaped}
use Rattle.line_scan.specs.Marks.{escape_of}
use Rattle.line_scan.proofs.quoted.unescaped.Given as goal

abbrev pub invariant-loop-at : goal.invariant-loop-at
invariant-loop-at l = record {
  within : l.at ≤ length l.written;
  value : unescaped (escape_of l.escapes) l.written ≡ l.bytes.items ++ unescaped (escape_of l.escapes) (drop l.at l.written);
}

abbrev pub decreases-loop-at : goal.decreases-loop-at
decreases-loop-at l = length l.written - l.at
