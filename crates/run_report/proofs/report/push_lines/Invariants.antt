use Rattle.std.proofs.Common.{◌≡◌, ◌++◌, take}
use Rattle.run_report.specs.Reports.{target_lines}
use Rattle.run_report.proofs.report.push_lines.Given as goal

-- the lines of the targets so far
abbrev pub invariant-loop-end : goal.invariant-loop-end
invariant-loop-end l = (l.number ≡ l.end-index) × (l.text.items ≡ l.initial.text.items ++ target_lines 1 (take l.end-index l.ends))
