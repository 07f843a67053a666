use Rattle.std.proofs.Common.{◌≡◌, drop}
use Rattle.start_times.specs.Starts.{same_bounds}
use Rattle.start_times.proofs.falls.same_bounds.Given as goal

-- all bounds are equal where those from here on are
abbrev pub invariant-loop-old : goal.invariant-loop-old
invariant-loop-old l = same_bounds l.fn.old l.fn.new ≡ same_bounds (drop l.old-index l.fn.old) l.news
