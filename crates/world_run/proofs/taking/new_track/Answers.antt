use Rattle.std.proofs.Common.{rules, ◌∙◌, ◌+◌, sym, subst}
use Rattle.bridge_ports.specs.Worlds.{Given}
use Rattle.bridge_ports.specs.Targets.{IsScraped}
use Rattle.world_run.proofs.Homes.{first_track, out_now, out_with, out_keeps, back_now, out_and_back, same_keeps, some_given}
use Rattle.world_run.proofs.taking.new_track.Goals as goal

pub returns-in-Ok-new-clause-first : goal.returns-in-Ok-new-clause-first
returns-in-Ok-new-clause-first g c =
    first_track c.args.config.now c.args.place _ _ _ _ c.in-Ok-new.track c.in-Ok-new.ensures.made c.in_ok-to.ensures c.facts.ensures c.in-Ok.ensures.places.0 c.in-Ok.ensures.places.1 (subst IsScraped c.scraped.view_is c.scraped.invariant)

pub returns-in-Ok-new-clause-out : goal.returns-in-Ok-new-clause-out
returns-in-Ok-new-clause-out g c =
    let given : Given = record { scrape = c.address-from.result.now; post = c.args.config.now.collector } in
    out_with (c.args.place) given (g.W.World.seen c.args.world.now) (g.W.World.seen c.wires.new.self) c.in-Ok-new.track c.in-Ok.ensures.out (search rules)

pub returns-in-Ok-new-clause-rest : goal.returns-in-Ok-new-clause-rest
returns-in-Ok-new-clause-rest g c = out_keeps (c.args.place + 1) _ (g.W.World.seen c.args.world.now) (g.W.World.seen c.wires.new.self) c.in-Ok.ensures.out

pub back-requires-clause-out : goal.back-requires-clause-out
back-requires-clause-out g c = (out_now (c.args.place + 1) _ (g.W.World.seen c.args.world.now) (g.W.World.seen c.wires.new.self) c.in-Ok.ensures.out).0

pub back-requires-clause-given : goal.back-requires-clause-given
back-requires-clause-given g c = some_given (g.W.World.seen c.wires.new.self).given (c.args.place + 1) _ (out_now (c.args.place + 1) _ (g.W.World.seen c.args.world.now) (g.W.World.seen c.wires.new.self) c.in-Ok.ensures.out).1

pub returns-in-Err-clause-rest : goal.returns-in-Err-clause-rest
returns-in-Err-clause-rest g c = same_keeps (c.args.place + 1) (g.W.World.seen c.args.world.now) (g.W.World.seen c.wires.new.self) c.in-Err.ensures.kept

pub returns-in-Err-Memory-clause-kept : goal.returns-in-Err-Memory-clause-kept
returns-in-Err-Memory-clause-kept g c =
    let home = back_now (c.args.place + 1) _ (g.W.World.seen c.wires.new.self) (g.W.World.seen c.back.new.self) c.back.ensures in
    search (rules, home)

pub returns-in-Err-Memory-clause-rest : goal.returns-in-Err-Memory-clause-rest
returns-in-Err-Memory-clause-rest g c = out_and_back (c.args.place + 1) _ _ (g.W.World.seen c.args.world.now) (g.W.World.seen c.wires.new.self) (g.W.World.seen c.back.new.self) c.in-Ok.ensures.out c.back.ensures
