use Rattle.std.proofs.Common.{refl, true, false}
use Rattle.std_edge.specs.Machine.{unused_wire}
use Rattle.bridge.proofs.main.Goals as goal

-- nothing was asked of the world of the machine, and no wire of it was used
pub bridge-status-requires-after_bounds : goal.bridge-status-requires-after_bounds
bridge-status-requires-after_bounds g c κs = rw c.new-world.ensures (record {
  no_file = refl;
  no_door = refl;
  pairs = λ n low high. ((unused_wire (record { number = n; post = false }), unused_wire (record { number = n; post = true })), refl, (tt, tt));
})
