use Rattle.std.proofs.Common.{◌≡◌, zip, take}
use Rattle.start_times.specs.Keeping.{entries_of}
use Rattle.start_times.proofs.listing.in_order_of_rows.Given as goal

-- the rows passed stand in the list
abbrev pub invariant-loop-at : goal.invariant-loop-at
invariant-loop-at l = entries_of l.list.items ≡ take l.at (zip l.fn.keys l.fn.rows)
