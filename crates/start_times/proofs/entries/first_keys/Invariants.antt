use Rattle.std.proofs.Common.{◌≡◌, take}
use Rattle.start_times.proofs.entries.first_keys.Given as goal

-- the keys so far are the first ones of the list
abbrev pub invariant-loop-at : goal.invariant-loop-at
invariant-loop-at l = l.keys.items ≡ take l.at l.fn.before
