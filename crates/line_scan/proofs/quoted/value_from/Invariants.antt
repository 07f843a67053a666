use Rattle.std.proofs.Common.{◌≡◌, ◌+◌, ◌-◌, ◌≤◌, length, take, drop}
use Rattle.label_sets.specs.Escapes.{quoted_at}
use Rattle.line_scan.specs.Marks.{behind_front}
use Rattle.line_scan.proofs.quoted.value_from.Given as goal

abbrev pub invariant-loop-at : goal.invariant-loop-at
invariant-loop-at l = record {
  within : l.at ≤ length l.bytes + 1;
  from : l.initial.start ≤ l.at;
  value : quoted_at l.bytes ≡ behind_front (take l.at l.bytes) (quoted_at (drop l.at l.bytes));
}

abbrev pub decreases-loop-at : goal.decreases-loop-at
decreases-loop-at l = length l.bytes - l.at
