use Rattle.std.proofs.Common.{◌≡◌, drop}
use Rattle.start_times.specs.Starts.{some_falls}
use Rattle.start_times.proofs.falls.some_falls.Given as goal

-- some count falls where one from here on does
abbrev pub invariant-loop-old : goal.invariant-loop-old
invariant-loop-old l = some_falls l.fn.old l.fn.new ≡ some_falls (drop l.old-index l.fn.old) l.news
