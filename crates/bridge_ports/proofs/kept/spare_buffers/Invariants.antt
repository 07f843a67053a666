-- The buffers made so far are empty ones of that size, and there is a place for each.
use Rattle.std.proofs.Common.{◌-◌, ◌≤◌, All, vec_len, vec_capacity}
use Rattle.bridge_ports.specs.Keeping.{IsSpare}
use Rattle.bridge_ports.proofs.kept.spare_buffers.Given as goal

abbrev pub invariant-loop-alloc : goal.invariant-loop-alloc
invariant-loop-alloc l = record {
  few : vec_len l.spares ≤ l.count;
  places : l.count ≤ vec_capacity l.spares;
  each : All (IsSpare l.room) l.spares.items;
}

abbrev pub decreases-loop-alloc : goal.decreases-loop-alloc
decreases-loop-alloc l = l.count - vec_len l.spares
