use Rattle.std.proofs.Common.{◌≡◌, ◌∙◌, Option, Some, refl, ap}
use Rattle.bridge_ports.specs.Outside.{SeenPair, at_number}
use Rattle.bridge_ports.proofs.Laws.{seen_by, is_at_number}
use Rattle.std_edge.specs.Pairs.{home_in, last_given_in}
use Rattle.std_edge.specs.World.{MachineState, machine_world}
use Rattle.std_edge.proofs.world.StdWorldWorld.back.Goals as goal

pub returns : goal.returns
returns g c =
    let pair : SeenPair = (c.args.scrape, c.args.post) in
    let same : last_given_in c.take_back.new.self ≡ last_given_in c.self.inside.pairs = c.take_back.ensures.given in
    seen_by _ _ (ap machine_world c.self.view_is) refl
    (is_at_number {A = Option SeenPair} c.args.number (Some pair) (home_in c.self.inside.pairs) (home_in c.take_back.new.self) c.take_back.ensures.back c.take_back.ensures.others
    ∙ ap (λ (w : MachineState). at_number {A = Option SeenPair} c.args.number (Some pair) (home_in w.pairs)) c.self.view_is)
    (same ∙ ap (λ (w : MachineState). last_given_in w.pairs) c.self.view_is)
    refl
