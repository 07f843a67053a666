use Rattle.std.proofs.Common.{Some, sym, ap, ◌∙◌}
use Rattle.std.specs.Prelude.{is_some}
use Rattle.bridge_ports.specs.declared.talk.Address.{Address}
use Rattle.bridge_ports.specs.Outside.{Outside}
use Rattle.world_run.specs.Serving.{nothing_asked}
use Rattle.world_run.proofs.Served.{opened_is, in_vain_is}
use Rattle.world_run.proofs.doors.open_door.Goals as goal

pub returns-in_default-clause-asked : goal.returns-in_default-clause-asked
returns-in_default-clause-asked g c = nothing_asked c.in_default.is

pub returns-in-Ok-clause-asked : goal.returns-in-Ok-clause-asked
returns-in-Ok-clause-asked g c =
    opened_is c.args.config.now (g.W.World.seen c.args.world.now) (g.W.World.seen c.door.new.self) c.in_ok-at.at (g.E.Door.door c.in-Ok.door)
    (c.in-Some.is ∙ ap (λ (a : Address). Some a) (sym c.in_ok-at.ensures)) c.in-Ok.ensures.asked c.in-Ok.ensures.cause.kept c.in-Ok.ensures.fresh

pub returns-in-Ok-clause-known : goal.returns-in-Ok-clause-known
returns-in-Ok-clause-known g c = ap (λ (o : Outside). is_some o.world.door_at) c.in-Ok.ensures.asked

pub returns-in-Err-clause-asked : goal.returns-in-Err-clause-asked
returns-in-Err-clause-asked g c =
    in_vain_is c.args.config.now (g.W.World.seen c.args.world.now) (g.W.World.seen c.door.new.self) c.in_ok-at.at
    (c.in-Some.is ∙ ap (λ (a : Address). Some a) (sym c.in_ok-at.ensures)) c.in-Err.ensures.asked c.in-Err.ensures.cause.failed
