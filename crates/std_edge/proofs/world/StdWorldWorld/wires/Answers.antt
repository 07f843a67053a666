use Rattle.std.proofs.Common.{◌≡◌, ◌∙◌, Option, Some, None, refl, ap}
use Rattle.bridge_ports.specs.Worlds.{Given}
use Rattle.bridge_ports.specs.Outside.{SeenPair, at_number}
use Rattle.bridge_ports.proofs.Laws.{seen_by, is_at_number}
use Rattle.std_edge.specs.Pairs.{home_in, last_given_in}
use Rattle.std_edge.specs.World.{MachineState, machine_world}
use Rattle.std_edge.proofs.world.StdWorldWorld.wires.Goals as goal
use Rattle.std_edge.proofs.world.StdWorldWorld.wires.Goals.{in-Ok, in-Err}

pub returns-clause-out : goal.returns-clause-out
returns-clause-out g c = elim c.match-given.branch [
  | in-Ok w ↦
      let given : Given = record { scrape = c.args.scrape.now; post = c.args.post.now } in
      rw w.result-is (
      seen_by _ _ (ap machine_world c.self.view_is) refl
      (is_at_number {A = Option SeenPair} c.args.number None (home_in c.self.inside.pairs) (home_in c.hand_out-given.new.self) w.in-Ok.ensures.out c.hand_out-given.ensures.others
      ∙ ap (λ (w : MachineState). at_number {A = Option SeenPair} c.args.number None (home_in w.pairs)) c.self.view_is)
      (is_at_number {A = Option Given} c.args.number (Some given) (last_given_in c.self.inside.pairs) (last_given_in c.hand_out-given.new.self) w.in-Ok.ensures.addresses c.hand_out-given.ensures.other_addresses
      ∙ ap (λ (w : MachineState). at_number {A = Option Given} c.args.number (Some given) (last_given_in w.pairs)) c.self.view_is)
      refl
      )
  | in-Err w ↦ rw w.result-is tt
]
