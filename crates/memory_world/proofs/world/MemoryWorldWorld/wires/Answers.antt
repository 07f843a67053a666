use Rattle.std.proofs.Common.{◌∙◌, Option, Some, None, IsSome, ap, sym, subst}
use Rattle.bridge_ports.specs.Worlds.{Given}
use Rattle.bridge_ports.specs.MemoryWorlds.{MemoryWorldState, file_of, given_of, coming_of}
use Rattle.bridge_ports.specs.Outside.{SeenPair, at_number}
use Rattle.bridge_ports.proofs.Laws.{seen_by}
use Rattle.memory_world.specs.WorldParts.{seen_home}
use Rattle.memory_world.proofs.WorldLaws.{home_out, given_out, some_seen}
use Rattle.memory_world.proofs.world.MemoryWorldWorld.wires.Goals as goal
use Rattle.memory_world.proofs.world.MemoryWorldWorld.wires.Goals.{in-Ok, in-Err}

pub hand_out-requires : goal.hand_out-requires
hand_out-requires c = some_seen c.self.inside.pairs c.args.number (subst (λ (w : MemoryWorldState). IsSome (seen_home w.pairs c.args.number)) (sym c.self.view_is) c.requires)

pub returns-clause-out : goal.returns-clause-out
returns-clause-out c = elim c.match-hand_out.branch [
  | in-Ok w ↦
      let given : Given = record { scrape = c.args.scrape.now; post = c.args.post.now } in
      rw w.result-is (
      seen_by _ _ (ap (λ (w : MemoryWorldState). w.world) c.self.view_is) (ap (λ (w : MemoryWorldState). file_of w.files) c.self.view_is)
      (home_out c.self.inside.pairs c.hand_out.new.self c.args.number _ w.in-Ok.ensures.out c.hand_out.ensures.others
      ∙ ap (λ (w : MemoryWorldState). at_number {A = Option SeenPair} c.args.number None (seen_home w.pairs)) c.self.view_is)
      (given_out c.self.inside.pairs c.hand_out.new.self c.args.number given w.in-Ok.ensures.out c.hand_out.ensures.others
      ∙ ap (λ (w : MemoryWorldState). at_number {A = Option Given} c.args.number (Some given) (given_of w.pairs)) c.self.view_is)
      (ap (λ (w : MemoryWorldState). coming_of w.doors) c.self.view_is)
      )
  | in-Err w ↦ rw w.result-is tt
]
