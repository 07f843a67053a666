use Rattle.std.proofs.Common.{sym, subst}
use Rattle.std.specs.Prelude.{option_map}
use Rattle.world_run.specs.Unused.{AreUnused}
use Rattle.world_run.specs.declared.run.RunEnd.{RunEnd}
use Rattle.world_run.proofs.Served.{asked_home, known_still, result_unasked, result_served, result_unserved}
use Rattle.world_run.proofs.run.run_config.Goals as goal

pub returns-in_err-door-clause-memory : goal.returns-in_err-door-clause-memory
returns-in_err-door-clause-memory g c = result_unasked c.from_residual.result c.args.config.now (g.W.World.seen c.args.world.now) (g.W.World.seen c.open_door.new.world) c.in_err-door.ensures.kept

pub run_beside-beside-requires-clause-unused : goal.run_beside-beside-requires-clause-unused
run_beside-beside-requires-clause-unused g c κs within = subst AreUnused (sym (asked_home c.args.config.now (g.W.World.seen c.args.world.now) (g.W.World.seen c.open_door.new.world) _ c.in_ok-door.ensures.asked)) c.requires.unused

pub close_door-requires-after_bounds : goal.close_door-requires-after_bounds
close_door-requires-after_bounds g c κs within =
    known_still c.run_beside-beside.result.end g.E.Door.door (λ (e : RunEnd). e.targets.items) (λ (e : RunEnd). e.served) c.args.config.now (g.W.World.seen c.open_door.new.world) (g.W.World.seen c.run_beside-beside.new.world) c.in_ok-door.door c.run_beside-beside.result.door c.in_ok-door.ensures.known
    c.run_beside-beside.ensures.run c.run_beside-beside.ensures.served c.run_beside-beside.ensures.memory c.run_beside-beside.ensures.door

pub returns-clause-run : goal.returns-clause-run
returns-clause-run g c =
    result_served _ (λ (e : RunEnd). e.targets.items) (λ (e : RunEnd). e.served) c.args.config.now (g.W.World.seen c.args.world.now) (g.W.World.seen c.open_door.new.world) (g.W.World.seen c.run_beside-beside.new.world) (g.W.World.seen c.close_door.new.world)
    (option_map g.E.Door.door c.in_ok-door.door) (option_map g.E.Door.door c.run_beside-beside.result.door) c.in_ok-door.ensures.asked c.close_door.ensures c.run_beside-beside.ensures.run c.run_beside-beside.ensures.served

pub returns-clause-memory : goal.returns-clause-memory
returns-clause-memory g c =
    result_unserved _ g.E.Door.door c.in_ok-door.door c.run_beside-beside.result.door c.args.config.now (g.W.World.seen c.args.world.now) (g.W.World.seen c.open_door.new.world) (g.W.World.seen c.run_beside-beside.new.world) (g.W.World.seen c.close_door.new.world) c.in_ok-door.ensures.asked c.close_door.ensures c.run_beside-beside.ensures.memory c.run_beside-beside.ensures.door
