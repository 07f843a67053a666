use Rattle.std.proofs.Common.{◌∙◌, Some, map, ap}
use Rattle.bridge_ports.specs.MemoryWorlds.{MemoryWorldState, file_of, given_of, coming_of}
use Rattle.bridge_ports.specs.Outside.{at_address}
use Rattle.bridge_ports.proofs.Laws.{seen_by, is_at_address}
use Rattle.memory_world.specs.WorldParts.{seen_home, listen_given}
use Rattle.memory_world.proofs.world.MemoryWorldWorld.door.Goals as goal

pub returns-clause-asked : goal.returns-clause-asked
returns-clause-asked c =
    let step = c.self-2.view_is ∙ c.count_call.ensures.counted in
    let left = coming_of (map listen_given c.door_out-door.new.doors.items) in
    seen_by _ _ (ap (λ (w : MemoryWorldState). record w.world { door_at = Some c.args.at; door_faults = c.self-2.inside.door_faults }) step)
    (ap (λ (w : MemoryWorldState). file_of w.files) step) (ap (λ (w : MemoryWorldState). seen_home w.pairs) step) (ap (λ (w : MemoryWorldState). given_of w.pairs) step)
    (is_at_address c.args.at (coming_of (map listen_given c.self-2.inside.doors.items)) left c.door_out-door.ensures.others ∙ ap (λ (w : MemoryWorldState). at_address c.args.at (left c.args.at) (coming_of w.doors)) step)
