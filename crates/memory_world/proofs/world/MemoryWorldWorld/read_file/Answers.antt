use Rattle.std.proofs.Common.{◌≡◌, ap, rules}
use Rattle.bridge_ports.specs.InMemory.{one_more}
use Rattle.bridge_ports.specs.MemoryWorlds.{MemoryWorldState}
use Rattle.memory_world.proofs.world.MemoryWorldWorld.read_file.Goals as goal

pub returns-then-count_call-clause-cause : goal.returns-then-count_call-clause-cause
returns-then-count_call-clause-cause c =
    let same : c.count_call.new.self.world.file_faults ≡ c.args.self.now.world.file_faults = ap (λ (w : MemoryWorldState). w.world.file_faults) c.count_call.ensures.counted in
    let now : c.fail_file.new.self.world.file_faults ≡ one_more c.count_call.new.self.world.file_faults = ap (λ (w : MemoryWorldState). w.world.file_faults) c.fail_file.ensures.counted in
    search (rules, same, now, c.fail_file.ensures.later)
