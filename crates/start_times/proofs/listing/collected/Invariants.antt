use Rattle.std.proofs.Common.{◌≡◌, take}
use Rattle.start_times.specs.Keeping.{entries_of}
use Rattle.start_times.proofs.listing.collected.Given as goal

-- the rows passed are the entries
abbrev pub invariant-loop-kept : goal.invariant-loop-kept
invariant-loop-kept l = l.entries.list ≡ entries_of (take l.kept-index l.fn.rows)
