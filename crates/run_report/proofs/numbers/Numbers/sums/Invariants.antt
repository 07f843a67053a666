use Rattle.std.proofs.Common.{◌≡◌, take}
use Rattle.run_report.specs.Reports.{sums_of}
use Rattle.run_report.specs.Sums.{AreOfTargets}
use Rattle.run_report.proofs.numbers.Numbers.sums.Given as goal

-- the sums over the targets so far
abbrev pub invariant-loop-end : goal.invariant-loop-end
invariant-loop-end l = (l.sums ≡ sums_of (take l.end-index l.ends)) × AreOfTargets l.end-index l.sums
