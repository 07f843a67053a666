use Rattle.std.proofs.Common.{◌≡◌, filter, take}
use Rattle.staleness.specs.Vanished.{is_lacking}
use Rattle.staleness.proofs.series_gone.lacking.Given as goal

-- what stands is lacking of the keys passed
abbrev pub invariant-loop-key : goal.invariant-loop-key
invariant-loop-key l = record {
  lacking : l.lacking.items ≡ filter (is_lacking l.initial.others) (take l.key-index l.fn.keys);
  others : l.others ≡ l.initial.others;
}
