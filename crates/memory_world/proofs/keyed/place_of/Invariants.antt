use Rattle.std.proofs.Common.{◌≡◌, ◌+◌, ◌-◌, ◌≤◌, length, drop}
use Rattle.std.specs.List.{position_or_len}
use Rattle.memory_world.proofs.keyed.place_of.Given as goal

abbrev pub invariant-loop-at : goal.invariant-loop-at
invariant-loop-at g l = record {
  within : l.at ≤ length l.items;
  rest : position_or_len (λ item. g.T.Keyed.has_key item l.key) l.items ≡ l.at + position_or_len (λ item. g.T.Keyed.has_key item l.key) (drop l.at l.items);
}

abbrev pub decreases-loop-at : goal.decreases-loop-at
decreases-loop-at g l = length l.items - l.at
