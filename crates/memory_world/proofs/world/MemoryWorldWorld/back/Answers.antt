use Rattle.std.proofs.Common.{◌≡◌, ◌∙◌, Option, Some, ap}
use Rattle.bridge_ports.specs.Plans.{seen_of}
use Rattle.bridge_ports.specs.MemoryWorlds.{MemoryWorldState, file_of, given_of, coming_of}
use Rattle.bridge_ports.specs.Outside.{SeenPair, at_number}
use Rattle.bridge_ports.proofs.Laws.{seen_by}
use Rattle.memory_world.specs.WorldParts.{seen_home}
use Rattle.memory_world.proofs.WorldLaws.{home_back, given_back}
use Rattle.memory_world.proofs.world.MemoryWorldWorld.back.Goals as goal

pub returns-clause-seen : goal.returns-clause-seen
returns-clause-seen c =
    let same : given_of c.take_back.new.self ≡ given_of c.self.inside.pairs = λ i m. given_back _ _ c.args.number _ c.take_back.ensures.back c.take_back.ensures.others m i in
    seen_by _ _ (ap (λ (w : MemoryWorldState). w.world) c.self.view_is) (ap (λ (w : MemoryWorldState). file_of w.files) c.self.view_is)
    (home_back c.self.inside.pairs c.take_back.new.self c.args.number (c.args.scrape, c.args.post) _ c.take_back.ensures.back c.take_back.ensures.others
    ∙ ap (λ (w : MemoryWorldState). at_number {A = Option SeenPair} c.args.number (Some (seen_of c.args.scrape, seen_of c.args.post)) (seen_home w.pairs)) c.self.view_is)
    (same ∙ ap (λ (w : MemoryWorldState). given_of w.pairs) c.self.view_is)
    (ap (λ (w : MemoryWorldState). coming_of w.doors) c.self.view_is)
